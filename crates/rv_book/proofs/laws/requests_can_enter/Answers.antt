-- The law, as rv_account proves it of whatever limits.
use Rattle.rv_account.specs.rules.StepLimits.{book_limits}
use Rattle.rv_account.proofs.OfState.CanEnter.{requests_can_enter_under}
use Rattle.rv_book.proofs.laws.requests_can_enter.Goals as goal

pub returns : goal.returns
returns c = requests_can_enter_under book_limits
