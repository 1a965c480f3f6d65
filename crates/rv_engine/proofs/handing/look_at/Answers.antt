-- The list alone changes.
use Rattle.std.proofs.Common.{refl}
use Rattle.rv_engine.proofs.handing.look_at.Goals as goal

pub returns-clause-looks : goal.returns-clause-looks
returns-clause-looks c = record { looks = c.add.ensures.adds; round = refl; room = c.add.ensures.room }
