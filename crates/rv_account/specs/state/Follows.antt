-- Which entry may follow a state: the rules of a legal account, each asked of the state alone.
use Rattle.std.specs.Prelude.{◌≡◌, ◌≢◌, ◌⊎◌, ◌<◌, ◌≤◌, ◌+◌, ℕ, List, [], Some, None}
use Rattle.rv_text.specs.declared.message.Key.{Key}
use Rattle.rv_account.specs.declared.entry.Entry.{Entry}
use Rattle.rv_account.specs.declared.entry.Act.{Act}
use Rattle.rv_account.specs.declared.entry.Act.TheVariants.{Hello, Arrive, Cancel, Tick}
use Rattle.rv_account.specs.state.State.{ClientState, State, client_at}
use Rattle.rv_account.specs.state.State.{place_list}
use Rattle.rv_account.specs.state.State.{place_waiting}
use Rattle.rv_account.specs.state.After.{due_at, met_by}

-- ---- moments

-- at a tick something is due, and at any other act nothing is
abbrev pub DueOnlyAtTick : State → ℕ → Act → Type 0
DueOnlyAtTick s moment (Hello client incarnation version) = due_at s moment ≡ []
DueOnlyAtTick s moment (Arrive key call) = due_at s moment ≡ []
DueOnlyAtTick s moment (Cancel key) = due_at s moment ≡ []
DueOnlyAtTick s moment Tick = due_at s moment ≢ []

-- the moment isn't less than the last, and something is due exactly at a tick
pub record MomentFits (s : State) (moment : ℕ) (does : Act) : Type 0 where
  pub not_before : s.moment ≤ moment
  pub due : DueOnlyAtTick s moment does

-- ---- numbers

-- the client said no hello, or one of a lower incarnation
abbrev pub IsNewIncarnation : State → ℕ → ℕ → Type 0
IsNewIncarnation s client incarnation = (session : ClientState) → client_at s client ≡ Some session
    → session.incarnation < incarnation

-- the key has the state's epoch, and its client has this session, of the key's incarnation
pub record InSession (s : State) (key : Key) (session : ClientState) : Type 0 where
  pub epoch : key.epoch ≡ s.epoch
  pub there : client_at s key.client ≡ Some session
  pub incarnation : session.incarnation ≡ key.incarnation

-- the key has its session's next number, and nothing waits there
pub record NumberIsNext (s : State) (key : Key) : Type 0 where
  pub session : ClientState
  pub of_session : InSession s key session
  pub next : key.number ≡ session.last + 1
  pub idle : place_waiting session.request ≡ None

-- the key has its session's last number, and its request waits
pub record NumberWaits (s : State) (key : Key) : Type 0 where
  pub session : ClientState
  pub of_session : InSession s key session
  pub last : key.number ≡ session.last
  pub place : ℕ
  pub waits : place_waiting session.request ≡ Some place

abbrev pub NumberFits : State → Act → Type 0
NumberFits s (Hello client incarnation version) = IsNewIncarnation s client incarnation
NumberFits s (Arrive key call) = NumberIsNext s key
NumberFits s (Cancel key) = NumberWaits s key ⊎ NumberIsNext s key
NumberFits s Tick = Unit {0}

-- ---- pairs and swaps

-- the places that an act's entry names: the oldest of those that an arrival might meet, as many as it may
-- name
abbrev pub partners_of : State → Act → List ℕ
partners_of s (Hello client incarnation version) = []
partners_of s (Arrive key call) = place_list (met_by s call)
partners_of s (Cancel key) = []
partners_of s Tick = []

-- ---- an entry that follows

-- the entry may follow
pub record FollowsState (s : State) (e : Entry) : Type 0 where
  pub moment : MomentFits s e.moment e.act
  pub number : NumberFits s e.act
  pub partners : e.partners ≡ partners_of s e.act
