-- Nothing but room changed.
use Rattle.std.proofs.Common.{arith, refl}
use Rattle.rv_server_connections.proofs.Sound.{same_sound, same_state}
use Rattle.rv_server_connections.proofs.slots.Slots.make_way.Goals as goal

pub returns-clause-sound : goal.returns-clause-sound
returns-clause-sound c =
    same_sound c.args.self.now _ c.requires c.make_room.ensures.same c.make_room.ensures.grows refl refl
    (λ e k. refl) (omega arith) (omega arith) (omega arith)

pub returns-clause-same : goal.returns-clause-same
returns-clause-same c = same_state c.args.self.now c.make_room.new.self c.make_room.ensures.same
