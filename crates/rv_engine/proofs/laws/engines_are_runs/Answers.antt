-- By induction on the calls.
use Rattle.rv_engine.proofs.Running.{engines_are_runs}
use Rattle.rv_engine.proofs.laws.engines_are_runs.Goals as goal

pub returns : goal.returns
returns c = engines_are_runs
