-- The connection is listed, or nothing changed.
use Rattle.std.proofs.Common.{arith, refl}
use Rattle.rv_server_connections.proofs.Tallying.{always_err, none_of, noted_same, notes_set, some_of}
use Rattle.rv_server_connections.proofs.Tallying.{tally_same}
use Rattle.rv_server_connections.proofs.noted.Noted.take_in.Goals as goal

pub returns-in_err-count-clause-sound : goal.returns-in_err-count-clause-sound
returns-in_err-count-clause-sound c =
    noted_same c.args.self.now (record { slots = c.take_in.new.self; changes = c.args.self.now.changes })
    c.requires c.take_in.ensures.sound c.in_err-count.ensures.refused c.requires.changes (omega arith)

pub returns-in_err-count-clause-kept : goal.returns-in_err-count-clause-kept
returns-in_err-count-clause-kept c =
    always_err c.from_residual.result _ (tally_same c.args.self.now
    (record { slots = c.take_in.new.self; changes = c.args.self.now.changes })
    c.requires.sound c.take_in.ensures.sound c.in_err-count.ensures.refused refl)

pub returns-in-Some-clause-noted : goal.returns-in-Some-clause-noted
returns-in-Some-clause-noted c =
    notes_set c.args.self.now (record { slots = c.take_in.new.self; changes = c.mark.new.self })
    c.args.connection _ c.requires c.take_in.ensures.sound
    (some_of _ _ _ c.in-Some.is c.in_ok-count.ensures.takes).sets c.mark.ensures.listed

pub returns-in-None-clause-sound : goal.returns-in-None-clause-sound
returns-in-None-clause-sound c =
    noted_same c.args.self.now (record { slots = c.take_in.new.self; changes = c.args.self.now.changes })
    c.requires c.take_in.ensures.sound (none_of _ _ c.in-None.is c.in_ok-count.ensures.same)
    c.requires.changes (omega arith)

pub returns-in-None-clause-same_tally : goal.returns-in-None-clause-same_tally
returns-in-None-clause-same_tally c =
    tally_same c.args.self.now
    (record { slots = c.take_in.new.self; changes = c.args.self.now.changes })
    c.requires.sound c.take_in.ensures.sound (none_of _ _ c.in-None.is c.in_ok-count.ensures.same) refl
