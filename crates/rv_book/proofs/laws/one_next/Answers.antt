-- The law, as rv_account proves it of whatever limits.
use Rattle.rv_account.specs.rules.StepLimits.{book_limits}
use Rattle.rv_account.proofs.OfState.OneStep.{one_next_under}
use Rattle.rv_book.proofs.laws.one_next.Goals as goal

pub returns : goal.returns
returns c = one_next_under book_limits
