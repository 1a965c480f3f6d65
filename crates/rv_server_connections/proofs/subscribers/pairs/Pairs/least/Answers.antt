-- The first of the set.
use Rattle.rv_server_connections.proofs.OfSubscribers.Ordered.{least_found}
use Rattle.rv_server_connections.proofs.subscribers.pairs.Pairs.least.Goals as goal

pub returns-clause-some : goal.returns-clause-some
returns-clause-some c = least_found c.args.self.now.pairs c.in_ok-first.field-0.now
    c.in_ok-first.ensures.member
    c.in_ok-first.ensures.least
