-- The law, as rv_account proves it of whatever limits.
use Rattle.rv_account.specs.rules.StepLimits.{book_limits}
use Rattle.rv_account.proofs.OfState.CanEnter.{cancels_can_enter_under}
use Rattle.rv_book.proofs.laws.cancels_can_enter.Goals as goal

pub returns : goal.returns
returns c = cancels_can_enter_under book_limits
