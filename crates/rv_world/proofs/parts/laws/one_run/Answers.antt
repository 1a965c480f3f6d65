-- The law, which Determined proves.
use Rattle.rv_world.proofs.OfParts.Determined.{one_run}
use Rattle.rv_world.proofs.parts.laws.one_run.Goals as goal

pub returns : goal.returns
returns c = one_run
