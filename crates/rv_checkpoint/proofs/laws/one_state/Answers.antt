-- Each line says one thing.
use Rattle.rv_checkpoint.proofs.ReadOn.{state_once}
use Rattle.rv_checkpoint.proofs.laws.one_state.Goals as goal

pub returns : goal.returns
returns c = state_once
