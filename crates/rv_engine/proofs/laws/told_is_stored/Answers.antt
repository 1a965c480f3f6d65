-- By induction on the calls.
use Rattle.rv_engine.proofs.Stored.{told_is_stored}
use Rattle.rv_engine.proofs.laws.told_is_stored.Goals as goal

pub returns : goal.returns
returns c = told_is_stored
