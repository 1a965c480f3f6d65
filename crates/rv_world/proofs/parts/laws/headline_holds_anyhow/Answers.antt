-- The law, which TheHeadline proves.
use Rattle.rv_world.proofs.OfParts.TheHeadline.{headline_holds_anyhow}
use Rattle.rv_world.proofs.parts.laws.headline_holds_anyhow.Goals as goal

pub returns : goal.returns
returns c = headline_holds_anyhow
