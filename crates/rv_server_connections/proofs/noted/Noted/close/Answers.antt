-- The connection is listed.
use Rattle.rv_server_connections.proofs.Tallying.{notes_set}
use Rattle.rv_server_connections.proofs.noted.Noted.close.Goals as goal

pub returns-clause-noted : goal.returns-clause-noted
returns-clause-noted c = λ there.
    notes_set c.args.self.now (record { slots = c.close.new.self; changes = c.mark.new.self })
    c.args.connection _
    c.requires c.close.ensures.sound c.close.ensures.closed c.mark.ensures.listed
