-- The lowest under the lowest moment waits up to that, and nobody up to an earlier one.
use Rattle.std.proofs.Common.{ℕ}
use Rattle.rv_server_connections.specs.subscribers.Subscription.{IsNextUntil}
use Rattle.rv_server_connections.specs.subscribers.Indexed.{who_hears}
use Rattle.rv_server_connections.specs.subscribers.Pairs.{IsLeastPair}
use Rattle.rv_server_connections.proofs.OfSubscribers.Finding.{next_until, nobody_hears, none_of, some_of}
use Rattle.rv_server_connections.proofs.subscribers.tables.Tables.next_until.Goals as goal

pub returns-clause-next : goal.returns-clause-next
returns-clause-next c =
    some_of c.least.result (IsLeastPair c.args.self.now.moments)
    (λ (next : ℕ × ℕ). IsNextUntil (who_hears c.args.self.now) next.0 next.1)
    (λ next. next_until c.args.self.now next c.requires) c.least.ensures.some

pub returns-clause-none : goal.returns-clause-none
returns-clause-none c =
    none_of c.least.result (nobody_hears c.args.self.now c.requires) c.least.ensures.none
