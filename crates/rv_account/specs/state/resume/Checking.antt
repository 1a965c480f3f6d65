-- What is asked of the parts of a state one by one: each open place with its client's session, each client
-- with its open place.
use Rattle.std.specs.Prelude.{◌≡◌, ◌≢◌, ◌<◌, ◌≤◌, ◌+◌, ℕ, List, Option, Some, None, filter, is_some}
use Rattle.std.specs.Prelude.{length}
use Rattle.std.specs.Prelude.{slice_get}
use Rattle.rv_text.specs.declared.call.Side.{Side}
use Rattle.rv_text.specs.declared.call.Side.TheVariants.{Exchanges, Gives, Takes}
use Rattle.rv_text.specs.declared.call.Call.{Call}
use Rattle.rv_session.specs.Entries.{map_of}
pub use Rattle.rv_session.specs.ClientOrder.{ClientsRise}
use Rattle.rv_session.specs.declared.client.LastRequest.TheVariants.{Waits}
use Rattle.rv_account.specs.state.State.{ClientState, OpenPlace, State, Waiter, same_side}
pub use Rattle.rv_account.specs.state.Standing.{IsLastOf, StandsFor}
use Rattle.rv_account.specs.state.resume.Resuming.{FitsSession, LiesOpen, most_resumed_clients}
use Rattle.std.specs.List.{All}
use Rattle.std.specs.Prelude.{refl}
use Rattle.std.specs.Ordering.{nat_cmp}
use Rattle.std.specs.Coded.{Coded, code_by, coded×, coded_list, coded_ℕ}
use Rattle.std.specs.FinMap.{FinMap}
use Rattle.std.specs.FinMap as map
use Rattle.rv_text.specs.Limits.{FitsIdentifier}
use Rattle.rv_text.specs.Members.{max_identifier}
use Rattle.rv_account.specs.Limits.{max_moment}
use Rattle.rv_account.specs.rules.StepLimits.{most_open_places}

-- open places in their order, each once
abbrev pub OpensRise : List OpenPlace → Type 0
OpensRise opens = (i j : ℕ) (one other : OpenPlace) → i < j → slice_get opens i ≡ Some one
    → slice_get opens j ≡ Some other → one.place < other.place

-- the state of these parts
abbrev pub state_by : ℕ → ℕ → ℕ → List OpenPlace → List (ℕ × ClientState) → State
state_by epoch moment length opens clients =
    record {
      epoch = epoch;
      moment = moment;
      length = length;
      open_places = opens;
      clients = map_of clients;
    }

-- the client of the request that waits at the open place is known, and that request is the last of its
-- session
pub record IsLastAmong (epoch : ℕ) (clients : List (ℕ × ClientState)) (there : OpenPlace) (w : Waiter) :
    Type 0
  where
    pub i : ℕ
    pub session : ClientState
    pub known : slice_get clients i ≡ Some (w.key.client, session)
    pub last : IsLastOf epoch there w session

-- all that a state to resume from has at one open place, apart from the other places
pub record StandsWell (epoch moment length : ℕ) (clients : List (ℕ × ClientState)) (there : OpenPlace) :
    Type 0
  where
    pub below : there.place < length
    pub awaited : (w : Waiter) → there.waiter ≡ Some w → IsLastAmong epoch clients there w
    pub began : (w : Waiter) → there.waiter ≡ Some w → w.since ≤ moment
    pub lies : there.waiter ≡ None → LiesOpen there
    pub undue : (limit : ℕ) → there.limit ≡ Some limit → moment < limit

-- the place is open, and a request of the client waits there
pub record IsAwaitedAmong (opens : List OpenPlace) (client place : ℕ) : Type 0 where
  pub i : ℕ
  pub there : OpenPlace
  pub stands : slice_get opens i ≡ Some there
  pub at_place : there.place ≡ place
  pub waiter : Waiter
  pub waits : there.waiter ≡ Some waiter
  pub client_is : waiter.key.client ≡ client

-- all that such a state has of one client
pub record IsSettledIn (epoch : ℕ) (opens : List OpenPlace) (client : ℕ) (session : ClientState) :
    Type 0 where
  pub fits : FitsSession epoch client session
  pub standing : (place : ℕ) (call : Call) → session.request ≡ Waits place call
      → IsAwaitedAmong opens client place

-- there is room
pub record HasRoomIn (moment count : ℕ) (opens : List OpenPlace) (known : List (ℕ × ClientState)) :
    Type 0 where
  pub time : moment ≤ max_moment
  pub space : count + length (filter (λ o. is_some o.waiter) opens) ≤ max_identifier
  pub clients : length known ≤ most_resumed_clients
  pub places : length opens ≤ most_open_places

-- ---- sides

-- some open place is of the side
pub record HasSide (opens : List OpenPlace) (side : Side) : Type 0 where
  pub i : ℕ
  pub there : OpenPlace
  pub stands : slice_get opens i ≡ Some there
  pub is : there.side ≡ side

-- the queue has open places of one side at most
abbrev pub IsCalmQueue : List OpenPlace → ℕ → Type 0
IsCalmQueue opens queue = HasSide opens (Gives queue) → HasSide opens (Takes queue) → ⊥

-- the exchanger has at most one open place
abbrev pub IsCalmExchanger : List OpenPlace → ℕ → Type 0
IsCalmExchanger opens exchanger = length (filter (λ o. same_side o.side (Exchanges exchanger)) opens) ≤ 1

-- ---- what is found

-- what has this number in a list stands at the index, or nothing has it
abbrev pub IsFoundAt : {X : Type 0} → (X → ℕ) → List X → ℕ → Option ℕ → Type 0
IsFoundAt {X} f xs n None = (i : ℕ) (x : X) → slice_get xs i ≡ Some x → f x ≢ n
IsFoundAt {X} f xs n (Some i) = (x : X) × (slice_get xs i ≡ Some x) × (f x ≡ n)

-- ---- all of it

-- all that is asked of the parts
pub record PassesAll (epoch moment count : ℕ) (opens : List OpenPlace) (known : List (ℕ × ClientState)) :
    Type 0
  where
    pub room : HasRoomIn moment count opens known
    pub identifier : FitsIdentifier epoch
    pub rise : OpensRise opens
    pub stand : All (StandsWell epoch moment count known) opens
    pub settled : All (λ k. IsSettledIn epoch opens k.0 k.1) known
    pub queues : (queue : ℕ) → queue ≤ 63 → IsCalmQueue opens queue
    pub exchangers : (exchanger : ℕ) → exchanger ≤ 63 → IsCalmExchanger opens exchanger

-- a state is stored as its parts
abbrev pub state_code : Coded OpenPlace → Coded ClientState → Coded State
state_code opened known =
    code_by (((((ℕ × ℕ) × ℕ) × List OpenPlace) × FinMap nat_cmp ClientState))
    (coded× (coded× (coded× (coded× coded_ℕ coded_ℕ) coded_ℕ) (coded_list opened)) (map.code coded_ℕ known))
    (λ s. ((((s.epoch, s.moment), s.length), s.open_places), s.clients))
    (λ p. record {
      epoch = p.0.0.0.0;
      moment = p.0.0.0.1;
      length = p.0.0.1;
      open_places = p.0.1;
      clients = p.1;
    }) (λ _. refl)
