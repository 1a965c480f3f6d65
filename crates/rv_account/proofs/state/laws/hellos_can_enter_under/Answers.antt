-- The law, which CanEnter proves.
use Rattle.rv_account.proofs.OfState.CanEnter.{hellos_can_enter_under}
use Rattle.rv_account.proofs.state.laws.hellos_can_enter_under.Goals as goal

pub returns : goal.returns
returns c = hellos_can_enter_under
