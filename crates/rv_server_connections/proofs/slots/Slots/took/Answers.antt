-- Fewer bytes of answers are held.
use Rattle.std.proofs.Common.{◌≡◌, Some}
use Rattle.rv_server_connections.specs.Table.{get}
use Rattle.rv_server_connections.proofs.Sound.{took_sound, took_within}
use Rattle.rv_server_connections.proofs.slots.Slots.took.Goals as goal

pub overflow_sub-self : goal.overflow_sub-self
overflow_sub-self c = took_within c.args.self.now c.args.connection c.args.count c.requires.sound
    c.requires.ready

pub returns-clause-sound : goal.returns-clause-sound
returns-clause-sound c =
    let s = c.args.self.now in
    let slot = c.slot_mut-slot.result.now in
    let there : get s.slots c.args.connection ≡ Some slot = c.slot_mut-slot.ensures.value in
    took_sound s c.args.connection c.args.count slot c.took.new.self c.requires.sound there c.took.ensures
    c.requires.ready
