-- The answer stands in its slot, or nothing changed.
use Rattle.std.proofs.Common.{arith, refl}
use Rattle.rv_server_connections.proofs.Answered.{gave_sound, held_sound, none_given, unmarked_again}
use Rattle.rv_server_connections.proofs.Freeing.{holds_back}
use Rattle.rv_server_connections.proofs.Sound.{held_small}
use Rattle.rv_server_connections.proofs.slots.Slots.answer.Goals as goal

pub give-requires-clause-held_back : goal.give-requires-clause-held_back
give-requires-clause-held_back c =
    holds_back c.args.self.now.written c.slot_mut-slot.result.now.wire.behind
    (c.requires.sound.held_back c.args.connection c.slot_mut-slot.result.now c.slot_mut-slot.ensures.value)

pub give-requires-2-clause-held_back : goal.give-requires-2-clause-held_back
give-requires-2-clause-held_back c =
    holds_back c.args.self.now.written c.slot_mut-slot.result.now.wire.behind
    (c.requires.sound.held_back c.args.connection c.slot_mut-slot.result.now c.slot_mut-slot.ensures.value)

pub add_held-self-requires : goal.add_held-self-requires
add_held-self-requires c =
    omega (arith, held_small c.args.self.now c.requires.sound.indexed.counted, c.room-room.ensures)

pub add_held-self-requires-in-Ok : goal.add_held-self-requires-in-Ok
add_held-self-requires-in-Ok c =
    omega (arith, held_small c.args.self.now c.requires.sound.indexed.counted, c.room-room.ensures)

pub returns-in_err-given-clause-sound : goal.returns-in_err-given-clause-sound
returns-in_err-given-clause-sound c =
    none_given c.args.self.now _ c.args.connection c.slot_mut-slot.result.now c.give.new.slot
    c.requires.sound c.slot_mut-slot.ensures.value c.in_err-given.ensures.refused refl refl refl
    (λ e k. refl) (omega arith) (omega arith) (omega arith)

pub returns-then-not-is_first_back-clause-sound : goal.returns-then-not-is_first_back-clause-sound
returns-then-not-is_first_back-clause-sound c =
    gave_sound c.args.self.now c.args.connection c.args.entries c.add_held-self.result c.args.body.now
    c.args.to c.slot_mut-slot.result.now c.give.new.slot c.in_ok-given.given c.requires.sound
    c.slot_mut-slot.ensures.value c.in_ok-given.ensures.gives c.if-not-is_first_back.ensures.no
    c.add_held-self.ensures

pub returns-in_err-stand-clause-sound : goal.returns-in_err-stand-clause-sound
returns-in_err-stand-clause-sound c =
    none_given c.args.self.now _ c.args.connection c.slot_mut-slot.result.now c.slot_mut-slot.result.now
    c.requires.sound c.slot_mut-slot.ensures.value refl refl refl refl c.in_err-stand.ensures.refused.same
    (omega (arith, c.in_err-stand.ensures.refused.count)) c.stand.ensures.room c.stand.ensures.looks

pub returns-in-Ok-clause-sound : goal.returns-in-Ok-clause-sound
returns-in-Ok-clause-sound c =
    let s = c.args.self.now in
    held_sound s
    (record s { index = c.stand.new.index; released = c.stand.new.released; reached = c.stand.new.reached })
    c.args.connection c.args.entries c.add_held-self-in-Ok.result c.args.body.now c.args.to
    c.slot_mut-slot.result.now c.give-2.new.slot c.in-Ok.given c.requires.sound refl refl refl
    c.in_ok-stand.ensures.stands c.slot_mut-slot.ensures.value c.if-not-is_first_back.ensures.yes.0
    c.if-not-is_first_back.ensures.yes.1 c.in-Ok.ensures.gives c.add_held-self-in-Ok.ensures

pub returns-in-Err-clause-sound : goal.returns-in-Err-clause-sound
returns-in-Err-clause-sound c =
    let s = c.args.self.now in
    let unmarked = c.if-not-is_first_back.ensures.yes.0 in
    let stands = c.in_ok-stand.ensures.stands in
    none_given s _ c.args.connection c.slot_mut-slot.result.now c.give-2.new.slot c.requires.sound
    c.slot_mut-slot.ensures.value c.in-Err.ensures.refused refl refl refl
    (unmarked_again s c.stand.new.index c.remove.new.self c.args.connection c.args.entries
    c.slot_mut-slot.result.now c.requires.sound c.slot_mut-slot.ensures.value unmarked stands.adds
    c.remove.ensures.removed)
    (omega (arith, c.remove.ensures.fewer stands.adds.own, stands.count)) c.stand.ensures.room
    c.stand.ensures.looks
