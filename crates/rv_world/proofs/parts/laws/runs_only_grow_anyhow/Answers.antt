-- The law, which Growth proves.
use Rattle.rv_world.proofs.OfParts.Growth.{runs_grow_anyhow}
use Rattle.rv_world.proofs.parts.laws.runs_only_grow_anyhow.Goals as goal

pub returns : goal.returns
returns c = runs_grow_anyhow
