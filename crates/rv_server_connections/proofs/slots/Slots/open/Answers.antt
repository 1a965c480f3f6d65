-- A free number is taken.
use Rattle.rv_server_connections.proofs.Sound.{opened_sound}
use Rattle.rv_server_connections.proofs.slots.Slots.open.Goals as goal

pub returns-clause-sound : goal.returns-clause-sound
returns-clause-sound c =
    opened_sound c.args.self.now c.open.new.self c.open.result c.new.result c.requires.sound
    c.open.ensures.sets c.open.ensures.free c.new.ensures c.open.ensures.within c.open.ensures.room
