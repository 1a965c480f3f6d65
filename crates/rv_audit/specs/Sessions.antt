-- The state of each session, as a table keeps it.
use Rattle.std.specs.Prelude.{◌≡◌, ◌≢◌, ℕ, Option, None, Some}
use Rattle.std.specs.Ordering.{nat_cmp}
use Rattle.std.specs.BTreeMap.{get}
use Rattle.rv_audit.specs.declared.sessions.AuditSession.{AuditSession}
use Rattle.rv_audit.specs.declared.sessions.AuditSessions.{AuditSessions}

-- the client's session
abbrev pub session_in : AuditSessions → ℕ → Option AuditSession
session_in t client = get nat_cmp t.sessions client

-- the client's session is this one, and all others stay
pub record EntersSession (old new : AuditSessions) (client : ℕ) (session : AuditSession) : Type 0 where
  pub own : session_in new client ≡ Some session
  pub others : (other : ℕ) → other ≢ client → session_in new other ≡ session_in old other

-- the same for a session, if one is given
abbrev pub EntersIf : AuditSessions → AuditSessions → Option (ℕ × AuditSession) → Type 0
EntersIf old new None = new ≡ old
EntersIf old new (Some entry) = EntersSession old new entry.0 entry.1
