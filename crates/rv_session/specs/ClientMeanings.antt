-- What each greeting and each standing means for a table of clients: what a caller learns from the one that
-- it got.
use Rattle.std.specs.Prelude.{◌≡◌, ◌≢◌, ◌⊎◌, ◌+◌, ◌<◌, ◌≤◌, ℕ, Option, Some, None}
use Rattle.std.specs.FinMap.{get, len}
use Rattle.rv_text.specs.declared.version.Version.{Version}
use Rattle.rv_text.specs.declared.message.Key.{Key}
use Rattle.rv_text.specs.declared.answer.Refusal.{Refusal}
use Rattle.rv_text.specs.declared.answer.Refusal as refusal
use Rattle.rv_session.specs.declared.client.ClientState.{ClientState}
use Rattle.rv_session.specs.declared.client.LastRequest.{LastRequest}
use Rattle.rv_session.specs.declared.client.LastRequest.TheVariants as requests
use Rattle.rv_session.specs.declared.standing.Greeting.{Greeting}
use Rattle.rv_session.specs.declared.standing.Greeting.TheVariants.{Again, Unknown, Full, Newer, Older}
use Rattle.rv_session.specs.declared.standing.Greeting.TheVariants.{OtherVersion}
use Rattle.rv_session.specs.Clients.{ClientStates, place_awaited}
use Rattle.rv_session.specs.ClientStandings.{Stands, IsRefused, WaitsThere, WasReplied, WasCancelled, IsNext}

-- ---- a hello

-- the client has a session of this incarnation and this version
pub record HasState (t : ClientStates) (client incarnation : ℕ) (version : Version) : Type 0 where
  pub state : ClientState
  pub there : get t.clients client ≡ Some state
  pub same : state.incarnation ≡ incarnation
  pub version_is : state.version ≡ version

-- the client has a session of this incarnation and another version, which is this one
pub record HasOtherState (t : ClientStates) (client incarnation : ℕ) (version current : Version)
    : Type 0 where
  pub opened : HasState t client incarnation current
  pub other : version ≢ current

-- the client has a session of a lower incarnation, and this is where its last request waits
pub record HasLowerState (t : ClientStates) (client incarnation : ℕ) (waiting : Option ℕ) : Type 0 where
  pub state : ClientState
  pub there : get t.clients client ≡ Some state
  pub lower : state.incarnation < incarnation
  pub waits : waiting ≡ place_awaited t.clients client

-- the client has a session of a greater incarnation, which is this one
pub record HasGreaterState (t : ClientStates) (client incarnation current : ℕ) : Type 0 where
  pub state : ClientState
  pub there : get t.clients client ≡ Some state
  pub current_is : current ≡ state.incarnation
  pub greater : incarnation < current

abbrev pub GreetingSays : ClientStates → ℕ → ℕ → Version → Greeting → Type 0
GreetingSays t client incarnation version Again = HasState t client incarnation version
GreetingSays t client incarnation version Unknown =
    (get t.clients client ≡ None) × (len t.clients < t.most)
GreetingSays t client incarnation version Full =
    (get t.clients client ≡ None) × (t.most ≤ len t.clients)
GreetingSays t client incarnation version (Newer waiting) = HasLowerState t client incarnation waiting
GreetingSays t client incarnation version (Older current) = HasGreaterState t client incarnation current
GreetingSays t client incarnation version (OtherVersion current) =
    HasOtherState t client incarnation version current

-- ---- a key

-- the key has the table's epoch, and its client has this session
pub record IsOfClient (t : ClientStates) (key : Key) (state : ClientState) : Type 0 where
  pub epoch : key.epoch ≡ t.epoch
  pub there : get t.clients key.client ≡ Some state

-- and the session has the key's incarnation
pub record IsOfState (t : ClientStates) (key : Key) (state : ClientState) : Type 0 where
  pub epoch : key.epoch ≡ t.epoch
  pub there : get t.clients key.client ≡ Some state
  pub incarnation : state.incarnation ≡ key.incarnation

-- the key has its session's last number, and this became of it
pub record AsksLast (t : ClientStates) (key : Key) (request : LastRequest) : Type 0 where
  pub state : ClientState
  pub of_key : IsOfState t key state
  pub number : key.number ≡ state.last
  pub request_is : state.request ≡ request

-- the key has its session's next number, and nothing waits there
pub record AsksNext (t : ClientStates) (key : Key) : Type 0 where
  pub state : ClientState
  pub of_key : IsOfState t key state
  pub number : key.number ≡ state.last + 1
  pub idle : place_awaited t.clients key.client ≡ None

-- the key's client has no session, or one of a lower incarnation
pub record LacksState (t : ClientStates) (key : Key) : Type 0 where
  pub epoch : key.epoch ≡ t.epoch
  pub lacks : (get t.clients key.client ≡ None)
      ⊎ ((state : ClientState) × (get t.clients key.client ≡ Some state)
      × (state.incarnation < key.incarnation))

-- the session has a greater incarnation, which is this one
pub record AsksOldIncarnation (t : ClientStates) (key : Key) (current : ℕ) : Type 0 where
  pub state : ClientState
  pub of_key : IsOfClient t key state
  pub current_is : current ≡ state.incarnation
  pub greater : key.incarnation < current

-- the number is below the session's last, which is this one; or it is that of a session that asked nothing
pub record AsksOldNumber (t : ClientStates) (key : Key) (last : ℕ) : Type 0 where
  pub state : ClientState
  pub of_key : IsOfState t key state
  pub last_is : last ≡ state.last
  pub old : (key.number < last) ⊎ ((key.number ≡ last) × (state.request ≡ requests.Fresh))

-- the number is above the session's last, which is this one and still waits
pub record AsksBehindWaiting (t : ClientStates) (key : Key) (last : ℕ) : Type 0 where
  pub state : ClientState
  pub of_key : IsOfState t key state
  pub last_is : last ≡ state.last
  pub above : last < key.number
  pub place : ℕ
  pub waits : place_awaited t.clients key.client ≡ Some place

-- nothing waits, and the number is above the next one after the session's last, which is this one
pub record AsksBeyondNext (t : ClientStates) (key : Key) (last : ℕ) : Type 0 where
  pub state : ClientState
  pub of_key : IsOfState t key state
  pub last_is : last ≡ state.last
  pub above : last + 1 < key.number
  pub idle : place_awaited t.clients key.client ≡ None

abbrev pub RefusalSays : ClientStates → Key → Refusal → Type 0
RefusalSays t key (refusal.TheVariants.OtherEpoch current) = (key.epoch ≢ current) × (current ≡ t.epoch)
RefusalSays t key refusal.TheVariants.NoSession = LacksState t key
RefusalSays t key (refusal.TheVariants.OldIncarnation current) = AsksOldIncarnation t key current
RefusalSays t key (refusal.TheVariants.OldNumber last) = AsksOldNumber t key last
RefusalSays t key (refusal.TheVariants.Busy last) = AsksBehindWaiting t key last
RefusalSays t key (refusal.TheVariants.Gap last) = AsksBeyondNext t key last
RefusalSays t key refusal.TheVariants.BadText = ⊥
RefusalSays t key refusal.TheVariants.OtherCall = ⊥
RefusalSays t key refusal.TheVariants.ClientsFull = ⊥
RefusalSays t key refusal.TheVariants.EpochFull = ⊥
RefusalSays t key refusal.TheVariants.NoMemory = ⊥
RefusalSays t key (refusal.TheVariants.OtherVersion current) = ⊥

abbrev pub StandingSays : ClientStates → Key → Stands → Type 0
StandingSays t key (IsRefused refusal) = RefusalSays t key refusal
StandingSays t key (WaitsThere place call) = AsksLast t key (requests.Waits place call)
StandingSays t key (WasReplied call reply) = AsksLast t key (requests.RepliedTo call reply)
StandingSays t key WasCancelled = AsksLast t key requests.CancelledUnseen
StandingSays t key IsNext = AsksNext t key
