-- The order in which the effects of a dispatcher come.
use Rattle.std.specs.Prelude.{ℕ, ◌≡◌, ◌<◌, ◌≤◌, ◌⊎◌, List, [], ◌∷◌, All, AllPairs, Contains, Some}
use Rattle.std.specs.Prelude.{drop, flat_map, length, take}
use Rattle.rv_text.specs.declared.message.Key.{Key}
use Rattle.rv_text.specs.declared.answer.Answer.TheVariants as answer
use Rattle.rv_frame.specs.Cut.{IsUnfinished}
use Rattle.rv_server_connections.specs.connection.Traffic.{IsDue, IsFinished, Traffic}
use Rattle.rv_server_connections.specs.declared.subscribers.tables.Subscription.{Subscription}
use Rattle.rv_server_connections.specs.Connections.{HasWire}
use Rattle.rv_hub.specs.dispatcher.View.{DispatcherState, DispatcherTerms}
use Rattle.rv_hub.specs.dispatcher.Telling.{AreSubscribersOf}
use Rattle.rv_hub.specs.dispatcher.Effects.{Effect, Does, DoesAll, bytes_in, settled_by, Asked, Closed}
use Rattle.rv_hub.specs.dispatcher.Effects.{Lacked, Lost, ReadNothing, Told, TookIn}

-- ---- telling

-- a connection is told, or closed if memory for its answer was refused
abbrev pub TellsOneSubscriber : ℕ → Effect → Type 0
TellsOneSubscriber connection (Told n key said) = n ≡ connection
TellsOneSubscriber connection (Closed n) = n ≡ connection
TellsOneSubscriber connection effect = ⊥

-- each of them, in order
abbrev pub TellsEach : List ℕ → List Effect → Type 0
TellsEach [] effects = effects ≡ []
TellsEach (connection ∷ row) [] = ⊥
TellsEach (connection ∷ row) (effect ∷ effects) = TellsOneSubscriber connection effect × TellsEach row effects

-- all that wait for a request of one of these keys' clients, each once: in the order of the keys, and those
-- of one client by number
pub record TellsKeys (terms : DispatcherTerms) (old : DispatcherState) (keys : List Key) (effects :
    List Effect)
    (new : DispatcherState) :
    Type 0
  where
    pub row : List ℕ
    pub subscribers : AreSubscribersOf old.hears keys row
    pub each : TellsEach row effects
    pub does : DoesAll terms old effects new

-- an effect, and then the tellings of all that it settled
pub record IsStride (terms : DispatcherTerms) (old : DispatcherState) (effect : Effect) (tells : List Effect)
    (new : DispatcherState) :
    Type 0
  where
    pub between : DispatcherState
    pub does : Does terms old effect between
    pub told : TellsKeys terms between (settled_by effect) tells new

-- ---- those that have waited as long as they may

-- each is told that its request waits, or closed if memory for that was refused
abbrev pub TellsStillWaiting : List (ℕ × Subscription) → List Effect → Type 0
TellsStillWaiting [] effects = effects ≡ []
TellsStillWaiting (subscriber ∷ subscribers) [] = ⊥
TellsStillWaiting (subscriber ∷ subscribers) (effect ∷ effects) =
    ((effect ≡ Told subscriber.0 subscriber.1.key (answer.Waiting subscriber.1.key))
    ⊎ (effect ≡ Closed subscriber.0))
    × TellsStillWaiting subscribers effects

-- the earlier moment first, and at one moment by number
abbrev pub WaitsSooner : ℕ × Subscription → ℕ × Subscription → Type 0
WaitsSooner one other = (one.1.until < other.1.until) ⊎ ((one.1.until ≡ other.1.until) × (one.0 < other.0))

-- those that have waited as long as they may by now, in order
pub record AreOverdue (s : DispatcherState) (subscribers : List (ℕ × Subscription)) : Type 0 where
  pub order : AllPairs WaitsSooner subscribers
  pub wait : All (λ h. (s.hears h.0 ≡ Some h.1) × (h.1.until ≤ s.now)) subscribers
  pub all : (connection : ℕ) (subscription : Subscription) → s.hears connection ≡ Some subscription
      → subscription.until ≤ s.now
      → Contains subscribers (connection, subscription)

pub record TellsOverdue (terms : DispatcherTerms) (old : DispatcherState) (effects : List Effect)
    (new : DispatcherState) :
    Type 0 where
  pub subscribers : List (ℕ × Subscription)
  pub overdue : AreOverdue old subscribers
  pub each : TellsStillWaiting subscribers effects
  pub does : DoesAll terms old effects new

-- ---- turns

-- a connection is closed in its own turn only if nothing is left for it to do, or if memory may have been
-- refused: for the answer to its frame, which is due, or for bytes of its piece, of which these are left, if
-- it takes more
abbrev pub MayClose : List ℕ → Traffic → Type 0
MayClose left wire = IsFinished wire ⊎ (IsDue wire ⊎ (IsUnfinished wire.unread × (0 < length left)))

abbrev pub MayDo : DispatcherState → List ℕ → Effect → Type 0
MayDo s left (Closed n) = HasWire s.open_wires n (MayClose left)
MayDo s left effect = Unit {0}

-- the bytes of a piece that are left after effects that took some
abbrev pub left_behind : List ℕ → List Effect → List ℕ
left_behind piece effects = drop (length (bytes_in effects)) piece

-- strides one after another, where these bytes of a piece are left
abbrev pub RunsStrides : DispatcherTerms → DispatcherState → List ℕ → List (Effect × List Effect)
    → DispatcherState → Type 0
RunsStrides terms old left [] new = new ≡ old
RunsStrides terms old left (stride ∷ strides) new =
    (between : DispatcherState) × MayDo old left stride.0 × IsStride terms old stride.0 stride.1 between
    × RunsStrides terms between (left_behind left (stride.0 ∷ stride.1)) strides new

-- an effect of the connection's own: bytes of its input, a frame, or its end
abbrev pub IsOwnEffect : ℕ → Effect → Type 0
IsOwnEffect connection (TookIn n bytes) = n ≡ connection
IsOwnEffect connection (Asked n body step said) = n ≡ connection
IsOwnEffect connection (ReadNothing n body) = n ≡ connection
IsOwnEffect connection (Lacked n body step) = n ≡ connection
IsOwnEffect connection (Lost n body step) = n ≡ connection
IsOwnEffect connection (Closed n) = n ≡ connection
IsOwnEffect connection effect = ⊥

-- all effects of strides, in order
abbrev pub effects_of : List (Effect × List Effect) → List Effect
effects_of strides = flat_map (λ s. s.0 ∷ s.1) strides

-- a connection goes on until it stops: its effects are of its own bytes and frames, each followed by the
-- tellings of those that it settles, and so many bytes of a piece that came are taken
pub record IsTurn (terms : DispatcherTerms) (old : DispatcherState) (connection : ℕ) (piece : List ℕ)
    (effects : List Effect)
    (count : ℕ) (new : DispatcherState) : Type 0
  where
    pub strides : List (Effect × List Effect)
    pub effects_are : effects ≡ effects_of strides
    pub own : All (λ s. IsOwnEffect connection s.0) strides
    pub runs : RunsStrides terms old piece strides new
    pub within : count ≤ length piece
    pub bytes : bytes_in effects ≡ take count piece
