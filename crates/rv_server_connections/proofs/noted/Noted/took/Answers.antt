-- The connection is listed.
use Rattle.rv_server_connections.proofs.Tallying.{notes_set}
use Rattle.rv_server_connections.proofs.noted.Noted.took.Goals as goal

pub returns-clause-noted : goal.returns-clause-noted
returns-clause-noted c =
    notes_set c.args.self.now (record { slots = c.took.new.self; changes = c.mark.new.self })
    c.args.connection _
    c.requires.sound c.took.ensures.sound c.took.ensures.left.sets c.mark.ensures.listed
