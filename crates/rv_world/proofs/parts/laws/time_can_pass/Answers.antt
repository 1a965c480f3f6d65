-- The law, which Existing proves.
use Rattle.rv_world.proofs.OfParts.Existing.{time_can_pass}
use Rattle.rv_world.proofs.parts.laws.time_can_pass.Goals as goal

pub returns : goal.returns
returns c = time_can_pass
