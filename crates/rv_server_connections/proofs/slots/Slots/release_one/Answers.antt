-- What may leave of one connection.
use Rattle.std.proofs.Common.{◌≡◌, ◌∙◌, Some, sym, ap, subst}
use Rattle.std.proofs.lemmas.Bool.{false≢true}
use Rattle.rv_server_connections.specs.Table.{TableState, get}
use Rattle.rv_server_connections.specs.connection.Traffic.{first_rests_on}
use Rattle.rv_server_connections.specs.Fields.{HasIndex, ReleasesOne}
use Rattle.rv_server_connections.proofs.Changing.{unwritten}
use Rattle.rv_server_connections.proofs.Released.{is_released, later_first, mark_differs, released_indexed}
use Rattle.rv_server_connections.proofs.Released.{stays_released, was_marked, written_first}
use Rattle.rv_server_connections.proofs.slots.Slots.release_one.Goals as goal

pub returns-then-not-is_written-clause-indexed : goal.returns-then-not-is_written-clause-indexed
returns-then-not-is_written-clause-indexed c =
    let s = c.args.self.now in
    let slot = c.slot_mut-slot.result.now in
    let there : get s.slots c.args.connection ≡ Some slot = c.slot_mut-slot.ensures.value in
    subst HasIndex (ap (λ (x : TableState). record s { slots = x })
    (sym (unwritten s.slots c.args.connection slot there))) c.requires.indexed

pub returns-then-not-is_written-clause-each : goal.returns-then-not-is_written-clause-each
returns-then-not-is_written-clause-each c =
    let s = c.args.self.now in
    let slot = c.slot_mut-slot.result.now in
    let there : get s.slots c.args.connection ≡ Some slot = c.slot_mut-slot.ensures.value in
    subst (ReleasesOne c.args.written s c.args.connection) (ap (λ (x : TableState). record s { slots = x })
    (sym (unwritten s.slots c.args.connection slot there)))
    (stays_released s c.args.connection c.args.written slot there
    (later_first c.waits_for.result (first_rests_on slot.wire.behind) c.args.written c.waits_for.ensures
    (λ low. false≢true (sym c.if-not-is_written.true ∙ c.is_written.ensures.1 low))))

pub move_mark-slot-requires-clause-there : goal.move_mark-slot-requires-clause-there
move_mark-slot-requires-clause-there c =
    let slot = c.slot_mut-slot.result.now in
    let there : get c.args.self.now.slots c.args.connection ≡ Some slot = c.slot_mut-slot.ensures.value in
    let first = written_first c.waits_for.result (first_rests_on slot.wire.behind) c.args.written
    c.waits_for.ensures (c.is_written.ensures.0 c.if-not-is_written.false) in
    was_marked c.args.self.now c.args.connection c.args.written first.0 slot c.release.new.self
    c.requires.indexed there c.release.ensures first.1 first.2

pub move_mark-slot-requires-clause-differ : goal.move_mark-slot-requires-clause-differ
move_mark-slot-requires-clause-differ c =
    let slot = c.slot_mut-slot.result.now in
    let there : get c.args.self.now.slots c.args.connection ≡ Some slot = c.slot_mut-slot.ensures.value in
    let first = written_first c.waits_for.result (first_rests_on slot.wire.behind) c.args.written
    c.waits_for.ensures (c.is_written.ensures.0 c.if-not-is_written.false) in
    mark_differs c.args.self.now c.args.connection c.args.written first.0 slot c.release.new.self
    c.requires.indexed there c.release.ensures first.1 first.2 c.waits_for-2.result c.waits_for-2.ensures

pub returns-clause-indexed : goal.returns-clause-indexed
returns-clause-indexed c =
    let slot = c.slot_mut-slot.result.now in
    let there : get c.args.self.now.slots c.args.connection ≡ Some slot = c.slot_mut-slot.ensures.value in
    let first = written_first c.waits_for.result (first_rests_on slot.wire.behind) c.args.written
    c.waits_for.ensures (c.is_written.ensures.0 c.if-not-is_written.false) in
    released_indexed c.args.self.now c.args.connection c.args.written first.0 slot c.release.new.self
    c.requires.indexed there c.release.ensures first.1 first.2 c.move_mark-slot.result c.waits_for-2.result
    c.move_mark-slot.new.index c.waits_for-2.ensures c.move_mark-slot.ensures.moved
    c.move_mark-slot.ensures.mark
    c.move_mark-slot.ensures.count

pub returns-clause-yes : goal.returns-clause-yes
returns-clause-yes c =
    let slot = c.slot_mut-slot.result.now in
    let there : get c.args.self.now.slots c.args.connection ≡ Some slot = c.slot_mut-slot.ensures.value in
    let first = written_first c.waits_for.result (first_rests_on slot.wire.behind) c.args.written
    c.waits_for.ensures (c.is_written.ensures.0 c.if-not-is_written.false) in
    is_released c.args.self.now c.args.connection c.args.written first.0 slot c.release.new.self
    c.requires.indexed there c.release.ensures first.1 first.2
