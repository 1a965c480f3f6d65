-- Where nobody waits no client is listed.
use Rattle.std.proofs.Common.{ap, nat_eq}
use Rattle.std.specs.HashSet.{contains}
use Rattle.std.specs.List.{list_any}
use Rattle.rv_server_connections.specs.subscribers.Indexed.{who_hears}
use Rattle.rv_server_connections.proofs.OfSubscribers.Heard.{has_under, hears_nobody}
use Rattle.rv_server_connections.proofs.subscribers.counted.Counted.empty.Goals as goal

pub returns-clause-counted : goal.returns-clause-counted
returns-clause-counted c =
    record {
      indexed = c.empty.ensures.indexed;
      heard = has_under c.empty.result c.empty.ensures.indexed (contains nat_eq c.new.result)
          (hears_nobody (who_hears c.empty.result) (contains nat_eq c.new.result) c.empty.ensures.nobody
          (λ q. ap (list_any (nat_eq q)) c.new.ensures.empty));
    }
