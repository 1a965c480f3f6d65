-- For each connection, the request that it waits for and the moment up to which it waits, if it waits.
use Rattle.std.specs.Prelude.{ℕ, ◌≡◌, ◌≢◌, ◌<◌, ◌≤◌, ◌⊎◌, ◌↔◌, List, AllPairs, Contains, length, None}
use Rattle.std.specs.Prelude.{Option, Some}
use Rattle.rv_server_connections.specs.declared.subscribers.tables.Subscription.{Subscription}

abbrev pub WhoHears : Type 0
WhoHears = ℕ → Option Subscription

-- no connection waits
abbrev pub nobody : WhoHears
nobody connection = None

-- one connection waits for this now, or for nothing, and all others are as they were
pub record SetsSubscription (old : WhoHears) (connection : ℕ) (subscription : Option Subscription)
    (new : WhoHears) : Type 0
  where
    pub own : new connection ≡ subscription
    pub others : (other : ℕ) → other ≢ connection → new other ≡ old other

-- the connection waits for a request of the client
pub record SubscribesTo (who : WhoHears) (client connection : ℕ) : Type 0 where
  pub subscription : Subscription
  pub there : who connection ≡ Some subscription
  pub same : subscription.key.client ≡ client

-- it is the lowest connection that does
pub record IsFirstSubscriber (who : WhoHears) (client connection : ℕ) : Type 0 where
  pub hears : SubscribesTo who client connection
  pub first : (other : ℕ) → SubscribesTo who client other → connection ≤ other

-- some connection waits for a request of the client
abbrev pub HasSubscriber : WhoHears → ℕ → Type 0
HasSubscriber who client = (connection : ℕ) × SubscribesTo who client connection

-- these are the clients with a request for which some connection waits, each once
pub record AreHeard (who : WhoHears) (clients : List ℕ) : Type 0 where
  pub once : AllPairs (λ one other. one ≢ other) clients
  pub each : (client : ℕ) → Contains clients client ↔ HasSubscriber who client

-- so many clients have one
abbrev pub CountsHeard : WhoHears → ℕ → Type 0
CountsHeard who count = (clients : List ℕ) × AreHeard who clients × (length clients ≡ count)

-- the connection waits up to this moment, and none up to an earlier one; it is the lowest of those that wait
-- up to this moment
pub record IsNextUntil (who : WhoHears) (moment connection : ℕ) : Type 0 where
  pub subscription : Subscription
  pub there : who connection ≡ Some subscription
  pub same : subscription.until ≡ moment
  pub first : (other : ℕ) (its : Subscription) → who other ≡ Some its
      → (moment < its.until) ⊎ ((moment ≡ its.until) × (connection ≤ other))
