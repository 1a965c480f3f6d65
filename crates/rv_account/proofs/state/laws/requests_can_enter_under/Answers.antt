-- The law, which CanEnter proves.
use Rattle.rv_account.proofs.OfState.CanEnter.{requests_can_enter_under}
use Rattle.rv_account.proofs.state.laws.requests_can_enter_under.Goals as goal

pub returns : goal.returns
returns c = requests_can_enter_under
