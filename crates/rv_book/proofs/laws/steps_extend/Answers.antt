-- The law, as rv_account proves it of whatever limits.
use Rattle.rv_account.specs.rules.StepLimits.{book_limits}
use Rattle.rv_account.proofs.OfState.Extending.{steps_extend_under}
use Rattle.rv_book.proofs.laws.steps_extend.Goals as goal

pub returns : goal.returns
returns c = steps_extend_under book_limits
