-- What an insertion leaves.
use Rattle.rv_world.proofs.OfParts.Words.{subst, process_in, ClientTable, EntersClient}
use Rattle.rv_world.proofs.OfParts.Tables.{table_of, entered}
use Rattle.rv_world.proofs.parts.clients.Clients.enter.Goals as goal

pub returns-in-Ok-clause-ok : goal.returns-in-Ok-clause-ok
returns-in-Ok-clause-ok c =
    let updates = c.in-Ok.ensures.updates in
    subst (λ (old : ClientTable). EntersClient old (table_of c.insert.new.self.entries) c.args.client
    c.args.newest (process_in c.args.process)) c.self.view_is
    (entered c.self.inside.clients.entries c.insert.new.self.entries c.args.client c.args.newest
    c.args.process updates.1 updates.2)
