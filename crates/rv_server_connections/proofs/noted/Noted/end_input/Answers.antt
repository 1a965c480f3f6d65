-- The connection is listed.
use Rattle.rv_server_connections.proofs.Tallying.{notes_set}
use Rattle.rv_server_connections.proofs.noted.Noted.end_input.Goals as goal

pub returns-clause-noted : goal.returns-clause-noted
returns-clause-noted c =
    notes_set c.args.self.now (record { slots = c.end_input.new.self; changes = c.mark.new.self })
    c.args.connection _
    c.requires.sound c.end_input.ensures.sound c.end_input.ensures.ended.sets c.mark.ensures.listed
