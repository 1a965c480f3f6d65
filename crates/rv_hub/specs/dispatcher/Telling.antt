-- What connections that wait for a request are told, and which ones wait.
use Rattle.std.specs.Prelude.{ℕ, ◌≡◌, ◌≢◌, ◌<◌, ◌↔◌, ◌⊎◌, List, Some, All, AllPairs, Contains, length}
use Rattle.std.specs.Prelude.{slice_get}
use Rattle.rv_text.specs.declared.message.Key.{Key}
use Rattle.rv_text.specs.declared.answer.Answer.{Answer}
use Rattle.rv_text.specs.declared.answer.Answer.TheVariants as answer
use Rattle.rv_text.specs.declared.answer.Refusal.TheVariants.{OldIncarnation}
use Rattle.rv_text.specs.declared.call.Call.{Call}
use Rattle.rv_text.specs.Limits.{FitsKey}
use Rattle.rv_session.specs.declared.client.LastRequest.{LastRequest}
use Rattle.rv_session.specs.declared.client.LastRequest.TheVariants.{Waits}
use Rattle.rv_account.specs.state.Moves.{answer_told, told_again}
use Rattle.rv_account.specs.state.State.{ClientState, State, client_at}
use Rattle.rv_server_connections.specs.subscribers.Subscription.{SubscribesTo, WhoHears}
-- the request with this key waits
pub use Rattle.rv_account.specs.state.waiting.Waiting.{WaitsOn}

-- it was the last of its session, or its session now has a greater incarnation
abbrev pub WasLast : ClientState → Key → Type 0
WasLast session key = ((session.incarnation ≡ key.incarnation) × (session.last ≡ key.number))
    ⊎ (key.incarnation < session.incarnation)

pub record IsTellable (s : State) (key : Key) : Type 0 where
  pub fits : FitsKey key
  pub epoch : key.epoch ≡ s.epoch
  pub session : ClientState
  pub there : client_at s key.client ≡ Some session
  pub last : WasLast session key

-- what a repeat of the request is told, or that its session has a greater incarnation
pub record IsToldAgain (s : State) (key : Key) (said : Answer) : Type 0 where
  pub fits : FitsKey key
  pub epoch : key.epoch ≡ s.epoch
  pub session : ClientState
  pub there : client_at s key.client ≡ Some session
  pub told : ((session.incarnation ≡ key.incarnation) × (session.last ≡ key.number)
      × (said ≡ answer_told key (told_again session.request)))
      ⊎ ((key.incarnation < session.incarnation)
      × (said ≡ answer.Refused (OldIncarnation session.incarnation)))

-- a connection waits for a request of the client of the key at this place, the first place with that client
pub record HearsAt (who : WhoHears) (keys : List Key) (connection place : ℕ) : Type 0 where
  pub key : Key
  pub at : slice_get keys place ≡ Some key
  pub hears : SubscribesTo who key.client connection
  pub first : (sooner : ℕ) (other : Key) → sooner < place → slice_get keys sooner ≡ Some other
      → other.client ≢ key.client

-- of two such connections the first comes sooner: by the places of their keys, and at one place by number
abbrev pub HearsSooner : WhoHears → List Key → ℕ → ℕ → Type 0
HearsSooner who keys one other = (i : ℕ) × (j : ℕ) × HearsAt who keys one i × HearsAt who keys other j
    × ((i < j) ⊎ ((i ≡ j) × (one < other)))

-- these are the connections that wait for a request of the client of one of the keys, in that order
pub record AreSubscribersOf (who : WhoHears) (keys : List Key) (row : List ℕ) : Type 0 where
  pub order : AllPairs (HearsSooner who keys) row
  pub hear : All (λ n. (place : ℕ) × HearsAt who keys n place) row
  pub all : (connection place : ℕ) (key : Key) → slice_get keys place ≡ Some key
      → SubscribesTo who key.client connection → Contains row connection

-- a session's last request waits
abbrev pub DoesWait : LastRequest → Type 0
DoesWait request = (place : ℕ) × (call : Call) × (request ≡ Waits place call)

-- a request of the client waits, and no connection waits for it
pub record IsUnheard (s : State) (who : WhoHears) (client : ℕ) : Type 0 where
  pub session : ClientState
  pub there : client_at s client ≡ Some session
  pub waits : DoesWait session.request
  pub nobody : (connection : ℕ) → ¬ SubscribesTo who client connection

-- these are the clients with such a request, each once
pub record AreUnheard (s : State) (who : WhoHears) (clients : List ℕ) : Type 0 where
  pub once : AllPairs (λ one other. one ≢ other) clients
  pub each : (client : ℕ) → Contains clients client ↔ IsUnheard s who client

-- so many clients have one
abbrev pub CountsUnheard : State → WhoHears → ℕ → Type 0
CountsUnheard s who count = (clients : List ℕ) × AreUnheard s who clients × (length clients ≡ count)
