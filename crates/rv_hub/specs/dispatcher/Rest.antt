-- What holds of a dispatcher after each effect, and where a connection stops.
use Rattle.std.specs.Prelude.{ℕ, ◌≡◌, ◌<◌, ◌≤◌, ◌⊎◌, [], true, IsSome, Some}
use Rattle.rv_account.specs.state.After.{due_at}
use Rattle.rv_server_connections.specs.connection.Traffic.{IsDue, IsFinished, Traffic}
use Rattle.rv_server_connections.specs.declared.subscribers.tables.Subscription.{Subscription}
use Rattle.rv_server_connections.specs.Connections.{HasWire, WireTakesNoMore}
use Rattle.rv_hub.specs.dispatcher.View.{DispatcherState}
use Rattle.rv_hub.specs.dispatcher.Telling.{WaitsOn}

-- a connection that waits is open and owes an answer
abbrev pub SubscribersOwe : DispatcherState → Type 0
SubscribersOwe s = (connection : ℕ) (subscription : Subscription) → s.hears connection ≡ Some subscription
    → HasWire s.open_wires connection (λ wire. wire.owes ≡ true)

-- and each that owes an answer waits
abbrev pub OwersHear : DispatcherState → Type 0
OwersHear s = (connection : ℕ) (wire : Traffic) → s.open_wires.wires connection ≡ Some wire → wire.owes ≡ true
    → IsSome (s.hears connection)

-- each that waits does so for a request that waits
abbrev pub SubscribersWait : DispatcherState → Type 0
SubscribersWait s = (connection : ℕ) (subscription : Subscription) → s.hears connection ≡ Some subscription
    → WaitsOn s.book subscription.key

-- and no longer than it may
abbrev pub SubscribersInTime : DispatcherState → Type 0
SubscribersInTime s = (connection : ℕ) (subscription : Subscription) → s.hears connection ≡ Some subscription
    → s.now < subscription.until

-- the connection has nothing to answer now, and something is left to do
abbrev pub HasComeToStop : DispatcherState → ℕ → Type 0
HasComeToStop s connection = (wire : Traffic) → s.open_wires.wires connection ≡ Some wire
    → (¬ IsDue wire) × (¬ IsFinished wire)

-- it takes no more bytes of its input: the unread bytes are a whole frame or a bad length, or it is closed
abbrev pub TakesNoMore : DispatcherState → ℕ → Type 0
TakesNoMore s connection = WireTakesNoMore s.open_wires connection

-- the next moment at which time must go on: the earliest of the book's limits and of the moments up to which
-- a connection waits
pub record IsNextMoment (s : DispatcherState) (moment : ℕ) : Type 0 where
  pub not_sooner : (earlier : ℕ) → earlier < moment → due_at s.book earlier ≡ []
  pub nobody_sooner : (connection : ℕ) (subscription : Subscription) → s.hears connection ≡ Some subscription
      → moment ≤ subscription.until
  pub needed : (due_at s.book moment ≡ [] → ⊥)
      ⊎ ((connection : ℕ) × (subscription : Subscription) × (s.hears connection ≡ Some subscription)
      × (subscription.until ≡ moment))
