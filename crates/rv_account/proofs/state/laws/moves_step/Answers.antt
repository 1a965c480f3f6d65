-- The law, which StateLaws proves.
use Rattle.rv_account.proofs.OfState.StateLaws.{moves_step}
use Rattle.rv_account.proofs.state.laws.moves_step.Goals as goal

pub returns : goal.returns
returns c = moves_step
