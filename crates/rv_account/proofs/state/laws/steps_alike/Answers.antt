-- The law, which StateLaws proves.
use Rattle.rv_account.proofs.OfState.StateLaws.{steps_alike}
use Rattle.rv_account.proofs.state.laws.steps_alike.Goals as goal

pub returns : goal.returns
returns c = steps_alike
