-- What is removed stands no longer in the set, and nothing else changes.
use Rattle.rv_server_connections.proofs.OfSubscribers.Ordered.{changes}
use Rattle.std.proofs.Common.{false}
use Rattle.rv_server_connections.proofs.subscribers.pairs.Pairs.remove.Goals as goal

pub returns-clause-removed : goal.returns-clause-removed
returns-clause-removed c = changes c.args.self.now.pairs c.remove.new.self c.args.number c.args.connection
    false c.remove.ensures.updates.0
