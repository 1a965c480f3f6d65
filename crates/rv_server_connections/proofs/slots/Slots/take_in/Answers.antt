-- The answers of the connection stay.
use Rattle.std.proofs.Common.{◌≡◌, ◌+◌, Some, arith, sym, ap, refl}
use Rattle.rv_server_connections.specs.Table.{get}
use Rattle.rv_server_connections.specs.connection.Traffic.{Traffic}
use Rattle.rv_server_connections.specs.declared.table.WireSlot.{WireSlot}
use Rattle.rv_server_connections.proofs.Answered.{none_given}
use Rattle.rv_server_connections.proofs.Sound.{kept_sound, took_in}
use Rattle.rv_server_connections.proofs.slots.Slots.take_in.Goals as goal

pub returns-then-not-takes_more-clause-sound : goal.returns-then-not-takes_more-clause-sound
returns-then-not-takes_more-clause-sound c =
    let slot = c.in-Some.slot.now in
    none_given c.args.self.now _ c.args.connection slot slot c.requires (sym c.in-Some.ensures.value) refl
    refl refl refl (λ e k. refl) (omega arith) (omega arith) (omega arith)

pub returns-in_err-count-clause-sound : goal.returns-in_err-count-clause-sound
returns-in_err-count-clause-sound c =
    let slot = c.in-Some.slot.now in
    none_given c.args.self.now _ c.args.connection slot _ c.requires (sym c.in-Some.ensures.value)
    (ap (λ (w : Traffic). record slot { wire = w }) c.in_err-count.ensures.refused) refl refl refl
    (λ e k. refl) (omega arith) (omega arith) (omega arith)

pub returns-clause-sound : goal.returns-clause-sound
returns-clause-sound c =
    let s = c.args.self.now in
    let slot : WireSlot = c.in-Some.slot.now in
    let there : get s.slots c.args.connection ≡ Some slot = sym c.in-Some.ensures.value in
    let same = took_in c.take_in.result slot.wire c.take_in.new.self c.args.piece.now c.take_in.ensures.takes
    c.take_in.ensures.refused in
    kept_sound s c.args.connection slot c.take_in.new.self s.held c.requires there same.0
    (omega (arith, same.1)) (ap (λ k. s.held + k) (sym same.1))
