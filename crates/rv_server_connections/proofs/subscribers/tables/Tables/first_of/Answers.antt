-- The lowest under the client is the first that waits for a request of it.
use Rattle.rv_server_connections.specs.subscribers.Subscription.{IsFirstSubscriber}
use Rattle.rv_server_connections.specs.subscribers.Indexed.{who_hears}
use Rattle.rv_server_connections.specs.subscribers.Pairs.{IsLowestUnder}
use Rattle.rv_server_connections.proofs.OfSubscribers.Finding.{first_subscriber, no_subscriber, none_of}
use Rattle.rv_server_connections.proofs.OfSubscribers.Finding.{some_of}
use Rattle.rv_server_connections.proofs.subscribers.tables.Tables.first_of.Goals as goal

pub returns-clause-first : goal.returns-clause-first
returns-clause-first c =
    some_of c.lowest.result (IsLowestUnder c.args.self.now.clients c.args.client)
    (IsFirstSubscriber (who_hears c.args.self.now) c.args.client)
    (λ connection. first_subscriber c.args.self.now c.args.client connection c.requires) c.lowest.ensures.some

pub returns-clause-none : goal.returns-clause-none
returns-clause-none c =
    none_of c.lowest.result (no_subscriber c.args.self.now c.args.client c.requires) c.lowest.ensures.none
