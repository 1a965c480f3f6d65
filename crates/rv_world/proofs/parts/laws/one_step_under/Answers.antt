-- The law, which Determined proves.
use Rattle.rv_world.proofs.OfParts.Determined.{one_step_under}
use Rattle.rv_world.proofs.parts.laws.one_step_under.Goals as goal

pub returns : goal.returns
returns c = one_step_under
