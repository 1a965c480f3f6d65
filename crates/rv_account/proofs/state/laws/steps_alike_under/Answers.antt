-- The law, which StateLaws proves.
use Rattle.rv_account.proofs.OfState.StateLaws.{steps_alike_under}
use Rattle.rv_account.proofs.state.laws.steps_alike_under.Goals as goal

pub returns : goal.returns
returns c = steps_alike_under
