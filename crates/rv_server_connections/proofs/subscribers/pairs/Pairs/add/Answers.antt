-- What is inserted stands in the set, and nothing else changes.
use Rattle.rv_server_connections.proofs.OfSubscribers.Ordered.{changes}
use Rattle.std.proofs.Common.{true}
use Rattle.rv_server_connections.proofs.subscribers.pairs.Pairs.add.Goals as goal

pub returns-in-Ok-clause-ok : goal.returns-in-Ok-clause-ok
returns-in-Ok-clause-ok c = changes c.args.self.now.pairs c.insert.new.self c.args.number c.args.connection
    true
    c.in-Ok.ensures.updates.0
