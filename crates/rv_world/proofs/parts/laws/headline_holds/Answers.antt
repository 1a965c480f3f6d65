-- The law, which TheHeadline proves.
use Rattle.rv_world.proofs.OfParts.TheHeadline.{headline_holds}
use Rattle.rv_world.proofs.parts.laws.headline_holds.Goals as goal

pub returns : goal.returns
returns c = headline_holds
