-- What each greeting and each standing means for the table: what a caller learns from the one that it got.
use Rattle.std.specs.Prelude.{◌≡◌, ◌≢◌, ◌⊎◌, ◌+◌, ◌<◌, ◌≤◌, ℕ, Option, Some, None}
use Rattle.rv_text.specs.declared.version.Version.{Version}
use Rattle.rv_text.specs.declared.message.Key.{Key}
use Rattle.rv_text.specs.declared.answer.Refusal.{Refusal}
use Rattle.rv_text.specs.declared.answer.Refusal as refusal
use Rattle.rv_session.specs.declared.session.Session.{Session}
use Rattle.rv_session.specs.declared.session.RequestState.{RequestState}
use Rattle.rv_session.specs.declared.session.RequestState as state
use Rattle.rv_session.specs.declared.standing.Greeting.{Greeting}
use Rattle.rv_session.specs.declared.standing.Greeting.TheVariants.{Again, Unknown, Full, Newer, Older}
use Rattle.rv_session.specs.declared.standing.Greeting.TheVariants.{OtherVersion}
use Rattle.rv_session.specs.declared.standing.Standing.{Standing}
use Rattle.rv_session.specs.declared.standing.Standing.TheVariants.{Refused, Waits, Settled, Next}
use Rattle.rv_session.specs.Table.{Table, session_of, session_count, waiting_of}
use Rattle.rv_session.specs.Standings.{max_clients}

-- ---- a hello

-- the client has a session of this incarnation and this version
pub record HasSession (t : Table) (client incarnation : ℕ) (version : Version) : Type 0 where
  pub session : Session
  pub there : session_of t client ≡ Some session
  pub same : session.incarnation ≡ incarnation
  pub version_is : session.version ≡ version

-- the client has a session of this incarnation and another version, which is this one
pub record HasOther (t : Table) (client incarnation : ℕ) (version current : Version) : Type 0 where
  pub opened : HasSession t client incarnation current
  pub other : version ≢ current

-- the client has a session of a lower incarnation, and this is where its last request waits
pub record IsNewer (t : Table) (client incarnation : ℕ) (waiting : Option ℕ) : Type 0 where
  pub session : Session
  pub there : session_of t client ≡ Some session
  pub lower : session.incarnation < incarnation
  pub waits : waiting ≡ waiting_of t client

-- the client has a session of a greater incarnation, which is this one
pub record IsOlder (t : Table) (client incarnation current : ℕ) : Type 0 where
  pub session : Session
  pub there : session_of t client ≡ Some session
  pub current_is : current ≡ session.incarnation
  pub greater : incarnation < current

abbrev pub GreetingMeans : Table → ℕ → ℕ → Version → Greeting → Type 0
GreetingMeans t client incarnation version Again = HasSession t client incarnation version
GreetingMeans t client incarnation version Unknown =
    (session_of t client ≡ None) × (session_count t < max_clients)
GreetingMeans t client incarnation version Full =
    (session_of t client ≡ None) × (max_clients ≤ session_count t)
GreetingMeans t client incarnation version (Newer waiting) = IsNewer t client incarnation waiting
GreetingMeans t client incarnation version (Older current) = IsOlder t client incarnation current
GreetingMeans t client incarnation version (OtherVersion current) =
    HasOther t client incarnation version current

-- ---- a key

-- the key has the table's epoch, and its client has this session
pub record OfClient (t : Table) (key : Key) (session : Session) : Type 0 where
  pub epoch : key.epoch ≡ t.epoch
  pub there : session_of t key.client ≡ Some session

-- and the session has the key's incarnation
pub record OfSession (t : Table) (key : Key) (session : Session) : Type 0 where
  pub epoch : key.epoch ≡ t.epoch
  pub there : session_of t key.client ≡ Some session
  pub incarnation : session.incarnation ≡ key.incarnation

-- the key has its session's last number, and this became of it
pub record HasLast (t : Table) (key : Key) (stands : RequestState) : Type 0 where
  pub session : Session
  pub of_key : OfSession t key session
  pub number : key.number ≡ session.last
  pub state : session.state ≡ stands

-- the key has its session's next number, and nothing waits there
pub record HasNext (t : Table) (key : Key) : Type 0 where
  pub session : Session
  pub of_key : OfSession t key session
  pub number : key.number ≡ session.last + 1
  pub idle : waiting_of t key.client ≡ None

-- the key's client has no session, or one of a lower incarnation
pub record LacksSession (t : Table) (key : Key) : Type 0 where
  pub epoch : key.epoch ≡ t.epoch
  pub lacks : (session_of t key.client ≡ None)
      ⊎ ((session : Session) × (session_of t key.client ≡ Some session)
      × (session.incarnation < key.incarnation))

-- the session has a greater incarnation, which is this one
pub record HasOldIncarnation (t : Table) (key : Key) (current : ℕ) : Type 0 where
  pub session : Session
  pub of_key : OfClient t key session
  pub current_is : current ≡ session.incarnation
  pub greater : key.incarnation < current

-- the number is below the session's last, which is this one; or it is that of a session that asked nothing
pub record HasOldNumber (t : Table) (key : Key) (last : ℕ) : Type 0 where
  pub session : Session
  pub of_key : OfSession t key session
  pub last_is : last ≡ session.last
  pub old : (key.number < last) ⊎ ((key.number ≡ last) × (session.state ≡ state.TheVariants.Fresh))

-- the number is above the session's last, which is this one and still waits
pub record IsBusy (t : Table) (key : Key) (last : ℕ) : Type 0 where
  pub session : Session
  pub of_key : OfSession t key session
  pub last_is : last ≡ session.last
  pub above : last < key.number
  pub place : ℕ
  pub waits : waiting_of t key.client ≡ Some place

-- nothing waits, and the number is above the next one after the session's last, which is this one
pub record HasGap (t : Table) (key : Key) (last : ℕ) : Type 0 where
  pub session : Session
  pub of_key : OfSession t key session
  pub last_is : last ≡ session.last
  pub above : last + 1 < key.number
  pub idle : waiting_of t key.client ≡ None

abbrev pub RefusalMeans : Table → Key → Refusal → Type 0
RefusalMeans t key (refusal.TheVariants.OtherEpoch current) = (key.epoch ≢ current) × (current ≡ t.epoch)
RefusalMeans t key refusal.TheVariants.NoSession = LacksSession t key
RefusalMeans t key (refusal.TheVariants.OldIncarnation current) = HasOldIncarnation t key current
RefusalMeans t key (refusal.TheVariants.OldNumber last) = HasOldNumber t key last
RefusalMeans t key (refusal.TheVariants.Busy last) = IsBusy t key last
RefusalMeans t key (refusal.TheVariants.Gap last) = HasGap t key last
RefusalMeans t key refusal.TheVariants.BadText = ⊥
RefusalMeans t key refusal.TheVariants.OtherCall = ⊥
RefusalMeans t key refusal.TheVariants.ClientsFull = ⊥
RefusalMeans t key refusal.TheVariants.EpochFull = ⊥
RefusalMeans t key refusal.TheVariants.NoMemory = ⊥
RefusalMeans t key (refusal.TheVariants.OtherVersion current) = ⊥

abbrev pub StandingMeans : Table → Key → Standing → Type 0
StandingMeans t key (Refused refusal) = RefusalMeans t key refusal
StandingMeans t key (Waits place) = HasLast t key (state.TheVariants.Waits place)
StandingMeans t key (Settled place kept) = HasLast t key (state.TheVariants.Settled place kept)
StandingMeans t key Next = HasNext t key
