-- A number is free again, and the bytes that were held count no longer.
use Rattle.std.proofs.Common.{◌≡◌, ◌∙◌, None, Some, arith, refl, sym, ap}
use Rattle.rv_server_connections.specs.Table.{get}
use Rattle.rv_server_connections.specs.connection.Traffic.{held_count}
use Rattle.rv_server_connections.specs.Connections.{count_at}
use Rattle.rv_server_connections.specs.Fields.{wire_of}
use Rattle.rv_server_connections.proofs.Changing.{held_part}
use Rattle.rv_server_connections.proofs.Sound.{closed_sound, none_left, none_set, same_sound}
use Rattle.rv_server_connections.proofs.slots.Slots.close.Goals as goal

pub overflow_sub-self : goal.overflow_sub-self
overflow_sub-self c =
    let s = c.args.self.now in
    let there : get s.slots c.args.connection ≡ Some c.in-Some.slot =
    sym c.remove.ensures.value ∙ c.in-Some.is in
    omega (
      arith,
      held_part (get s.slots) c.args.connection s.slots.room s.held
          c.requires.indexed.counted.held,
      ap (λ o. count_at held_count (wire_of o)) there,
      c.held.ensures.count,
    )

pub returns-in-Some-clause-sound : goal.returns-in-Some-clause-sound
returns-in-Some-clause-sound c =
    let s = c.args.self.now in
    let there : get s.slots c.args.connection ≡ Some c.in-Some.slot =
    sym c.remove.ensures.value ∙ c.in-Some.is in
    closed_sound s c.remove.new.self c.drop_mark.new.index c.args.connection _ c.in-Some.slot c.requires
    there c.remove.ensures.sets c.remove.ensures.room c.drop_mark.ensures.dropped
    c.drop_mark.ensures.count (omega (
      arith,
      held_part (get s.slots) c.args.connection s.slots.room s.held
          c.requires.indexed.counted.held,
      ap (λ o. count_at held_count (wire_of o)) there,
      c.held.ensures.count,
    ))

pub returns-in_default-clause-sound : goal.returns-in_default-clause-sound
returns-in_default-clause-sound c =
    let s = c.args.self.now in
    let none : get s.slots c.args.connection ≡ None = none_left (get s.slots c.args.connection)
    (λ slot there. c.in_default.not-Some slot (c.remove.ensures.value ∙ there)) in
    same_sound s _ c.requires (none_set (get s.slots) (get c.remove.new.self) c.args.connection
    c.remove.ensures.sets none) (omega (arith, c.remove.ensures.room)) refl refl (λ e k. refl) (omega arith)
    (omega arith) (omega arith)
