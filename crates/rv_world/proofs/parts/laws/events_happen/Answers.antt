-- The law, which AsHappenings proves.
use Rattle.rv_world.proofs.OfParts.AsHappenings.{events_happen}
use Rattle.rv_world.proofs.parts.laws.events_happen.Goals as goal

pub returns : goal.returns
returns c = events_happen
