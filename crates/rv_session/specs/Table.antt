-- A table of sessions: the epoch, a map from clients to their sessions, and the room for more of them.
use Rattle.std.specs.Prelude.{◌≡◌, ◌≢◌, ◌+◌, ◌≤◌, ℕ, Option, Some, None, IsSome}
use Rattle.std.specs.Prelude.{option_and_then, option_map, refl}
use Rattle.std.specs.Ordering.{nat_cmp}
use Rattle.std.specs.Coded.{Coded, code_by, coded×, coded_ℕ}
use Rattle.std.specs.FinMap.{FinMap, empty}
use Rattle.std.specs.FinMap as map
use Rattle.rv_text.specs.declared.message.Key.{Key}
use Rattle.rv_text.specs.declared.version.Version.{Version}
use Rattle.rv_session.specs.declared.kept.Kept.{Kept}
use Rattle.rv_session.specs.declared.session.Session.{Session}
use Rattle.rv_session.specs.declared.session.RequestState.{RequestState}
use Rattle.rv_session.specs.declared.session.RequestState.TheVariants.{Fresh, Waits, Settled}

pub record Table : Type 0 where
  pub epoch : ℕ
  pub sessions : FinMap nat_cmp Session
  -- how many more clients can get a session before the table takes memory
  pub room : ℕ

-- a table is stored as its fields
abbrev pub table_code : Coded Session → Coded Table
table_code code = code_by ((ℕ × FinMap nat_cmp Session) × ℕ)
    (coded× (coded× coded_ℕ (map.code coded_ℕ code)) coded_ℕ)
    (λ t. ((t.epoch, t.sessions), t.room))
    (λ p. record { epoch = p.0.0; sessions = p.0.1; room = p.1 }) (λ _. refl)

-- the client's session, if it has one
abbrev pub session_of : Table → ℕ → Option Session
session_of t client = map.get t.sessions client

-- how many clients have a session
abbrev pub session_count : Table → ℕ
session_count t = map.len t.sessions

-- whether the last request waits, and where
abbrev pub waiting_place : RequestState → Option ℕ
waiting_place Fresh = None
waiting_place (Waits place) = Some place
waiting_place (Settled place kept) = None

-- where the last request of the client's session waits, if it does
abbrev pub waiting_of : Table → ℕ → Option ℕ
waiting_of t client = option_and_then (λ session. waiting_place session.state) (session_of t client)

-- the version of the client's session, if it has one
abbrev pub version_in : Table → ℕ → Option Version
version_in t client = option_map (λ session. session.version) (session_of t client)

-- a session in which nothing was asked yet
abbrev pub fresh : ℕ → Version → Session
fresh incarnation version =
    record { incarnation = incarnation; version = version; last = 0; state = Fresh }

-- the session of this version with the key's number as its last, which is in this state
abbrev pub session_for : Key → Version → RequestState → Session
session_for key version stands =
    record { incarnation = key.incarnation; version = version; last = key.number; state = stands }

-- the session with its last number settled
abbrev pub settled_session : Session → Option ℕ → Kept → Session
settled_session session place kept = record {
  incarnation = session.incarnation;
  version = session.version;
  last = session.last;
  state = Settled place kept;
}

-- the table of an epoch, in which nobody has a session yet
pub record IsOpened (t : Table) (epoch : ℕ) : Type 0 where
  pub epoch_is : t.epoch ≡ epoch
  pub nobody : t.sessions ≡ empty

-- all sessions are as they were, and there is no less room
pub record SameSessions (old new : Table) : Type 0 where
  pub epoch : new.epoch ≡ old.epoch
  pub sessions : new.sessions ≡ old.sessions
  pub room : old.room ≤ new.room

-- the new table has this session for the client, and is the old one otherwise; only a new client takes room
pub record OnlySets (old new : Table) (client : ℕ) (session : Session) : Type 0 where
  pub epoch : new.epoch ≡ old.epoch
  pub own : session_of new client ≡ Some session
  pub others : (other : ℕ) → other ≢ client → session_of new other ≡ session_of old other
  pub known : IsSome (session_of old client) → session_count new ≡ session_count old
  pub unknown : session_of old client ≡ None → session_count new ≡ session_count old + 1
  pub room : IsSome (session_of old client) → new.room ≡ old.room

-- the key's number is the last of its session, and is in this state; the session's version stays, and so does
-- all else
pub record OnlyAdvances (old new : Table) (key : Key) (stands : RequestState) : Type 0 where
  pub version : Version
  pub was : version_in old key.client ≡ Some version
  pub sets : OnlySets old new key.client (session_for key version stands)

-- the client's session is settled with this; the rest of it stays, and so do the other sessions
pub record OnlySettles (old new : Table) (client place : ℕ) (kept : Kept) : Type 0 where
  pub session : Session
  pub there : session_of old client ≡ Some session
  pub sets : OnlySets old new client (settled_session session (Some place) kept)
