-- The new connection is listed, or nothing changed.
use Rattle.std.proofs.Common.{Some, arith, refl, subst}
use Rattle.rv_server_connections.specs.connection.Steps.{fresh_traffic}
use Rattle.rv_server_connections.specs.Connections.{ListsOne, SetsWire}
use Rattle.rv_server_connections.specs.Fields.{slots_state}
use Rattle.rv_server_connections.proofs.Tallying.{always_err, noted_same, notes_set, tally_same}
use Rattle.rv_server_connections.proofs.noted.Noted.open.Goals as goal

pub returns-in_err-make_way-clause-sound : goal.returns-in_err-make_way-clause-sound
returns-in_err-make_way-clause-sound c =
    noted_same c.args.self.now (record { slots = c.make_way.new.self; changes = c.args.self.now.changes })
    c.requires c.make_way.ensures.sound c.make_way.ensures.same c.requires.changes (omega arith)

pub returns-in_err-make_way-clause-kept : goal.returns-in_err-make_way-clause-kept
returns-in_err-make_way-clause-kept c =
    always_err c.from_residual.result _ (tally_same c.args.self.now
    (record { slots = c.make_way.new.self; changes = c.args.self.now.changes })
    c.requires.sound c.make_way.ensures.sound c.make_way.ensures.same refl)

pub returns-in_err-make_room-clause-sound : goal.returns-in_err-make_room-clause-sound
returns-in_err-make_room-clause-sound c =
    noted_same c.args.self.now (record { slots = c.make_way.new.self; changes = c.make_room.new.self })
    c.requires c.make_way.ensures.sound c.make_way.ensures.same c.make_room.ensures.sound
    c.make_room.ensures.grows

pub returns-in_err-make_room-clause-kept : goal.returns-in_err-make_room-clause-kept
returns-in_err-make_room-clause-kept c =
    always_err c.from_residual-in_err-make_room.result _ (tally_same c.args.self.now
    (record { slots = c.make_way.new.self; changes = c.make_room.new.self })
    c.requires.sound c.make_way.ensures.sound c.make_way.ensures.same c.make_room.ensures.same)

pub returns-clause-noted : goal.returns-clause-noted
returns-clause-noted c =
    notes_set c.args.self.now (record { slots = c.open-connection.new.self; changes = c.mark.new.self })
    c.open-connection.result (Some fresh_traffic) c.requires c.open-connection.ensures.sound
    (subst (λ s. SetsWire s c.open-connection.result (Some fresh_traffic)
    (slots_state c.open-connection.new.self))
    c.make_way.ensures.same c.open-connection.ensures.opened.sets)
    (subst (λ l. ListsOne l c.open-connection.result c.mark.new.self.numbers.items) c.make_room.ensures.same
    c.mark.ensures.listed)
