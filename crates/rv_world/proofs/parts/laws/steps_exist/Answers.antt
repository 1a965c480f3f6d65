-- The law, which Existing proves.
use Rattle.rv_world.proofs.OfParts.Words.{book_limits}
use Rattle.rv_world.proofs.OfParts.Existing.{steps_exist_under}
use Rattle.rv_world.proofs.parts.laws.steps_exist.Goals as goal

pub returns : goal.returns
returns c = steps_exist_under book_limits
