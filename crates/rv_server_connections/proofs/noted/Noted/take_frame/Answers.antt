-- The connection is listed.
use Rattle.rv_server_connections.proofs.Tallying.{notes_set}
use Rattle.rv_server_connections.proofs.noted.Noted.take_frame.Goals as goal

pub returns-clause-noted : goal.returns-clause-noted
returns-clause-noted c =
    notes_set c.args.self.now (record { slots = c.take_frame-read.new.self; changes = c.mark.new.self })
    c.args.connection _
    c.requires.sound c.take_frame-read.ensures.sound c.take_frame-read.ensures.taken.sets
    c.mark.ensures.listed
