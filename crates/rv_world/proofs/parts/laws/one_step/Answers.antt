-- The law, which Determined proves.
use Rattle.rv_world.proofs.OfParts.Words.{book_limits}
use Rattle.rv_world.proofs.OfParts.Determined.{one_step_under}
use Rattle.rv_world.proofs.parts.laws.one_step.Goals as goal

pub returns : goal.returns
returns c = one_step_under book_limits
