-- What contracts see of the subscribers.
use Rattle.std.specs.Prelude.{ℕ}
use Rattle.std.specs.BTreeMap.{btree_map_len}
use Rattle.rv_server_connections.specs.declared.subscribers.Subscribers.{Subscribers}
use Rattle.rv_server_connections.specs.subscribers.Subscription.{WhoHears}
use Rattle.rv_server_connections.specs.subscribers.Indexed.{who_hears}

-- what each connection waits for
abbrev pub subscribers_of : Subscribers → WhoHears
subscribers_of subscribers = who_hears subscribers.counted.tables

-- how many connections wait
abbrev pub subscribers_count : Subscribers → ℕ
subscribers_count subscribers = btree_map_len subscribers.counted.tables.subscriptions
