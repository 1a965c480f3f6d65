-- All are released, and listed are those of which something was let go.
use Rattle.std.proofs.Common.{refl}
use Rattle.rv_server_connections.proofs.Leading.{reached_all, reached_sound, reaching_starts}
use Rattle.rv_server_connections.proofs.slots.Slots.release.Goals as goal

pub release_reached-requires : goal.release_reached-requires
release_reached-requires c =
    reaching_starts c.args.written c.args.self.now _ c.requires refl refl refl c.clear.ensures.items
    c.clear.ensures.capacity c.list_up_to.ensures.capacity c.list_up_to.ensures.listed
    c.list_up_to.ensures.few

pub returns-clause-sound : goal.returns-clause-sound
returns-clause-sound c =
    reached_sound c.args.written c.args.self.now c.release_reached.new.self c.release_reached.ensures.0
    c.release_reached.ensures.1

pub returns-clause-releases : goal.returns-clause-releases
returns-clause-releases c =
    reached_all c.args.written c.args.self.now c.release_reached.new.self c.release_reached.ensures.0
    c.release_reached.ensures.1
