-- What the tables hold, for the proofs: the public words are those of `Subscription`.
use Rattle.std.specs.Prelude.{ℕ, ◌≡◌, Bool, None, Option, Some, false, nat_eq}
use Rattle.std.specs.HashSet.{contains}
use Rattle.std.specs.Ordering.{nat_cmp}
use Rattle.std.specs.BTreeMap.{get}
use Rattle.rv_server_connections.specs.declared.subscribers.tables.Subscription.{Subscription}
use Rattle.rv_server_connections.specs.declared.subscribers.tables.Tables.{Tables}
use Rattle.rv_server_connections.specs.declared.subscribers.counted.Counted.{Counted}
use Rattle.rv_server_connections.specs.subscribers.Subscription.{WhoHears}
use Rattle.rv_server_connections.specs.subscribers.Pairs.{ChangesPairs, SamePairs, some_under, stands_under}

-- which connections wait, and for what
abbrev pub who_hears : Tables → WhoHears
who_hears t connection = get nat_cmp t.subscriptions connection

-- whether a connection waits for a request of the client; whether it waits up to the moment
abbrev pub is_of : Option Subscription → ℕ → Bool
is_of None client = false
is_of (Some subscription) client = nat_eq subscription.key.client client

abbrev pub is_until : Option Subscription → ℕ → Bool
is_until None moment = false
is_until (Some subscription) moment = nat_eq subscription.until moment

pub record IsIndexed (t : Tables) : Type 0 where
  pub clients : (client connection : ℕ) → stands_under t.clients client connection ≡ is_of (who_hears t
      connection) client
  pub moments : (moment connection : ℕ) → stands_under t.moments moment connection ≡ is_until (who_hears t
      connection) moment

-- a connection stands under its client and its moment, or no longer does
pub record StandsAs (stands : Bool) (old : Tables) (connection : ℕ) (subscription : Subscription)
    (new : Tables) :
    Type 0
  where
    pub clients : ChangesPairs old.clients new.clients subscription.key.client connection stands
    pub moments : ChangesPairs old.moments new.moments subscription.until connection stands

-- the same connections are under the same numbers
pub record SameTables (old new : Tables) : Type 0 where
  pub clients : SamePairs old.clients new.clients
  pub moments : SamePairs old.moments new.moments

-- the tables are indexed, and the set has each client that has some connection under it
pub record IsCounted (c : Counted) : Type 0 where
  pub indexed : IsIndexed c.tables
  pub heard : (client : ℕ) → contains nat_eq c.heard client ≡ some_under c.tables.clients client
