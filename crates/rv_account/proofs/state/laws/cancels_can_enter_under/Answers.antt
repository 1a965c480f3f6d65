-- The law, which CanEnter proves.
use Rattle.rv_account.proofs.OfState.CanEnter.{cancels_can_enter_under}
use Rattle.rv_account.proofs.state.laws.cancels_can_enter_under.Goals as goal

pub returns : goal.returns
returns c = cancels_can_enter_under
