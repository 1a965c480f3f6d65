-- The connection is listed, or nothing changed.
use Rattle.std.proofs.Common.{arith, refl}
use Rattle.rv_server_connections.proofs.Tallying.{always_err, noted_same, notes_set, tally_same}
use Rattle.rv_server_connections.proofs.noted.Noted.answer.Goals as goal

pub returns-in_err-read-clause-sound : goal.returns-in_err-read-clause-sound
returns-in_err-read-clause-sound c =
    noted_same c.args.self.now (record { slots = c.answer.new.self; changes = c.args.self.now.changes })
    c.requires.sound c.answer.ensures.sound c.in_err-read.ensures.refused c.requires.sound.changes
    (omega arith)

pub returns-in_err-read-clause-kept : goal.returns-in_err-read-clause-kept
returns-in_err-read-clause-kept c =
    always_err c.from_residual.result _ (tally_same c.args.self.now
    (record { slots = c.answer.new.self; changes = c.args.self.now.changes })
    c.requires.sound.sound c.answer.ensures.sound c.in_err-read.ensures.refused refl)

pub returns-clause-noted : goal.returns-clause-noted
returns-clause-noted c =
    notes_set c.args.self.now (record { slots = c.answer.new.self; changes = c.mark.new.self })
    c.args.connection _ c.requires.sound c.answer.ensures.sound c.in_ok-read.ensures.answers.sets
    c.mark.ensures.listed
