-- The law, which StateLaws proves.
use Rattle.rv_account.proofs.OfState.StateLaws.{ticks_step}
use Rattle.rv_account.proofs.state.laws.ticks_step.Goals as goal

pub returns : goal.returns
returns c = ticks_step
