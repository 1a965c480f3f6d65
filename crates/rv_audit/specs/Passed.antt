-- What an audit's tables are to the entries that it has passed.
use Rattle.std.specs.Prelude.{◌≡◌, ◌⊎◌, ◌↔◌, ◌<◌, ◌+◌, ◌++◌, ◌∷◌, ◌&&◌, ◌||◌, [], ◌^◌, ℕ, Bool, true, cond}
use Rattle.std.specs.Prelude.{nat_eq, nat_lt, not, find, is_some, option_map}
use Rattle.std.specs.Prelude.{List, length, Option, Some, None, slice_get}
use Rattle.rv_text.specs.declared.message.Key.{Key}
use Rattle.rv_text.specs.declared.call.Side.{Side}
use Rattle.rv_text.specs.declared.call.Call.{Call}
use Rattle.rv_text.specs.Calls.{side_of, wait_of}
use Rattle.rv_account.specs.declared.entry.Act.{Act}
use Rattle.rv_account.specs.declared.entry.Act.TheVariants.{Arrive, Cancel, Hello, Tick}
use Rattle.rv_account.specs.declared.entry.Entry.{Entry}
use Rattle.rv_account.specs.Account.{Account, Among}
use Rattle.rv_account.specs.Calls.{limit_of, may_name, opposite}
use Rattle.rv_account.specs.rules.Sessions.{HasIncarnation}
use Rattle.rv_account.specs.rules.Legal.{IsOpenOpposite, Legal, MayFollow, before}
use Rattle.rv_account.specs.rules.Steps.{own_moment}
use Rattle.rv_account.specs.state.State.{ClientState, OpenPlace, State, client_at, client_waits}
use Rattle.rv_account.specs.state.State.{place_waiting}
use Rattle.rv_account.specs.state.After.{but, due_at, just_open, lasts_by, met_by, state_of}
use Rattle.rv_audit.specs.AccountRules.{IsPaired, IsSwapped, NamesOne, WasNamed}
use Rattle.rv_audit.specs.declared.rules.MeetingKind.{MeetingKind}
use Rattle.rv_audit.specs.declared.rules.MeetingKind.TheVariants as kinds
use Rattle.rv_audit.specs.Opens.{AreTabled, AuditOpen, is_among, opening_at}
use Rattle.rv_audit.specs.Sessions.{session_in}
use Rattle.rv_audit.specs.declared.front.Front.{Front}
use Rattle.rv_audit.specs.declared.opens.Opens.{Opens}
use Rattle.rv_audit.specs.declared.sessions.AuditSession.{AuditSession}
use Rattle.rv_audit.specs.declared.sessions.AuditSessions.{AuditSessions}

-- the account of the entries that were passed
abbrev pub passed_account : Front → Account
passed_account front = before front.account.now.account (length front.taken.items)

-- the state of that account
abbrev pub passed_state : Front → State
passed_state front = state_of (passed_account front)

-- the entry at a place is named as a partner, or names one
abbrev pub IsTaken : List Entry → ℕ → Type 0
IsTaken entries r = WasNamed entries r ⊎ NamesOne entries r

-- the flags are set for exactly such entries
pub record AreTaken (entries : List Entry) (taken : List Bool) : Type 0 where
  pub count : length taken ≡ length entries
  pub flags : (r : ℕ) → (slice_get taken r ≡ Some true) ↔ IsTaken entries r

-- the limit, if it fits a moment
abbrev pub fitting : Option ℕ → Option ℕ
fitting None = None
fitting (Some limit) = cond (nat_lt limit (2 ^ 64)) (Some limit) None

-- what a table keeps of an open place
abbrev pub opening_of : OpenPlace → AuditOpen
opening_of there =
    record {
      side = there.side;
      limit = fitting there.limit;
      client = option_map (λ w. w.key.client) there.waiter;
    }

-- what is open at a place, of these open places
abbrev pub open_among : List OpenPlace → ℕ → Option OpenPlace
open_among all place = find (λ o. nat_eq o.place place) all

-- at each place the table has what is open there, of these open places
abbrev pub AreOpen : List OpenPlace → Opens → Type 0
AreOpen all t = (r : ℕ) → opening_at t r ≡ option_map opening_of (open_among all r)

-- the session has its client's incarnation and last number, and, if its last request waits, the place of that
pub record IsAudited (state : ClientState) (s : AuditSession) : Type 0 where
  pub incarnation : s.incarnation ≡ state.incarnation
  pub last : s.last ≡ state.last
  pub alone : (r : ℕ) → place_waiting state.request ≡ Some r → s.request ≡ Some r

abbrev pub IsAuditedIf : Option ClientState → Option AuditSession → Type 0
IsAuditedIf None None = Unit {0}
IsAuditedIf None (Some s) = ⊥
IsAuditedIf (Some state) None = ⊥
IsAuditedIf (Some state) (Some s) = IsAudited state s

abbrev pub AreAudited : State → AuditSessions → Type 0
AreAudited s t = (client : ℕ) → IsAuditedIf (client_at s client) (session_in t client)

-- the tables are what the state of a legal account says
pub record AreTables (a : Account) (front : Front) : Type 0 where
  pub legal : Legal a
  pub moment : front.moment ≡ own_moment a
  pub taken : AreTaken a.entries front.taken.items
  pub indexed : AreTabled front.opens
  pub opens : AreOpen (state_of a).open_places front.opens
  pub sessions : AreAudited (state_of a) front.sessions

-- the tables are what the entries that were passed say
abbrev pub IsFront : Front → Type 0
IsFront front = AreTables (passed_account front) front

-- ---- what is read off them

-- the key has the account's epoch and its client's incarnation
abbrev pub IsOfSessionOf : Account → Key → Type 0
IsOfSessionOf a key = (key.epoch ≡ a.epoch) × HasIncarnation a.entries key.client key.incarnation

-- the place is that of the oldest open arrival that the call might meet and that isn't among these places; or
-- there is none
abbrev pub IsOldestOpposite : List Entry → Call → List ℕ → Option ℕ → Type 0
IsOldestOpposite entries call places None = (r : ℕ) → IsOpenOpposite entries call r → Among places r
IsOldestOpposite entries call places (Some place) = IsOpenOpposite entries call place × (¬ Among places place)
    × ((r : ℕ) → r < place → IsOpenOpposite entries call r → Among places r)

-- the side is one of those that meet in this way
abbrev pub IsOf : MeetingKind → Side → Type 0
IsOf kinds.Pair side = IsPaired side
IsOf kinds.Swap side = IsSwapped side

-- this holds of one of these places; it holds of none of the first so many
abbrev pub HasAmong : (ℕ → Type 0) → List ℕ → Type 0
HasAmong Is places = (p : ℕ) × Among places p × Is p

abbrev pub NoneBefore : (ℕ → Type 0) → List ℕ → ℕ → Type 0
NoneBefore Is places n = (i p : ℕ) → i < n → slice_get places i ≡ Some p → ¬ Is p

-- one of these partners isn't one that the call may meet there
abbrev pub Misses : List Entry → Call → List ℕ → Type 0
Misses entries call partners = HasAmong (λ p. ¬ IsOpenOpposite entries call p) partners

-- these partners are fewer than the call may name, and there is one that it may meet and that isn't among
-- them
pub record LeavesPartner (entries : List Entry) (call : Call) (partners : List ℕ) : Type 0 where
  pub fewer : length partners < may_name call
  pub other : ℕ
  pub there : IsOpenOpposite entries call other
  pub unnamed : ¬ Among partners other

-- one that it might meet, and that isn't among them, comes before one of them
pub record LeavesOlder (entries : List Entry) (call : Call) (partners : List ℕ) : Type 0 where
  pub partner : ℕ
  pub named : Among partners partner
  pub older : ℕ
  pub earlier : older < partner
  pub there : IsOpenOpposite entries call older
  pub unnamed : ¬ Among partners older

-- ---- what an entry closes

-- nothing changed but what is open
abbrev pub with_opens : Front → Opens → Front
with_opens front opens = record {
  account = front.account;
  moment = front.moment;
  taken = front.taken;
  opens = opens;
  sessions = front.sessions;
}

abbrev pub SameRest : Front → Front → Type 0
SameRest old new = new ≡ with_opens old new.opens

-- the open places that an act at a moment closes: what waits for a client, what is met, or what is due
abbrev pub closed_by : State → ℕ → Act → List OpenPlace
closed_by s moment (Hello client incarnation version) = just_open (client_waits s client)
closed_by s moment (Arrive key call) = met_by s call
closed_by s moment (Cancel key) = just_open (client_waits s key.client)
closed_by s moment Tick = due_at s moment

abbrev pub open_beside : State → Entry → List OpenPlace
open_beside s e = but s.open_places (closed_by s e.moment e.act)

-- what the entry closes is no longer open
pub record ClosesGone (old new : Front) (e : Entry) : Type 0 where
  pub indexed : AreTabled new.opens
  pub opens : AreOpen (open_beside (passed_state old) e) new.opens

-- ---- what an entry brings

-- the flags that are set are those that were set, and those of these places
pub record SetsFlags (old new : List Bool) (places : List ℕ) : Type 0 where
  pub count : length new ≡ length old
  pub flags : (r : ℕ) → slice_get new r ≡ option_map (λ flag. flag || is_among places r) (slice_get old r)

-- whether there are any
abbrev pub is_any : List ℕ → Bool
is_any places = not (nat_eq (length places) 0)

-- the flags of these places were set, and one more was added at the end: whether there are any such places
pub record Flags (old new : List Bool) (places : List ℕ) : Type 0 where
  pub flags : List Bool
  pub sets : SetsFlags old flags places
  pub one_more : new ≡ flags ++ is_any places ∷ []

-- what an arrival with this key and call opens at a moment, if it names no partner
abbrev pub opening_of_call : ℕ → Key → Call → Option AuditOpen
opening_of_call moment key call =
    cond (is_some (opposite (side_of call)) && lasts_by (wait_of call))
    (Some (record {
      side = side_of call;
      limit = fitting (limit_of moment call);
      client = option_map (λ wait. key.client) (wait_of call);
    })) None

-- what an entry opens, if it does
abbrev pub alone_opens : List ℕ → ℕ → Act → Option AuditOpen
alone_opens [] moment (Arrive key call) = opening_of_call moment key call
alone_opens _ moment does = None

abbrev pub opening_by : Entry → Option AuditOpen
opening_by e = alone_opens e.partners e.moment e.act

-- how an act changes its client's session
abbrev pub with_number : ℕ → ℕ → Option AuditSession → Option (ℕ × AuditSession)
with_number client number None = None
with_number client number (Some s) =
    Some (client, record { incarnation = s.incarnation; last = number; request = s.request })

abbrev pub session_after : AuditSessions → Act → ℕ → Option (ℕ × AuditSession)
session_after t (Hello client incarnation version) place =
    Some (client, record { incarnation = incarnation; last = 0; request = None })
session_after t (Arrive key call) place =
    Some (key.client, record { incarnation = key.incarnation; last = key.number; request = Some place })
session_after t (Cancel key) place = with_number key.client key.number (session_in t key.client)
session_after t Tick place = None

-- the entry may be passed next
pub record MayPass (front : Front) (e : Entry) : Type 0 where
  pub there : slice_get front.account.now.account.entries (length front.taken.items) ≡ Some e
  pub follows : MayFollow (passed_account front) e

-- and, since a front, all that it closes was closed
pub record IsReadyFor (front : Front) (e : Entry) : Type 0 where
  pub start : Front
  pub is_front : IsFront start
  pub may : MayPass start e
  pub rest : SameRest start front
  pub closes : ClosesGone start front e

-- one more entry was passed
pub record HasPassed (old new : Front) : Type 0 where
  pub account : new.account ≡ old.account
  pub count : length new.taken.items ≡ length old.taken.items + 1
  pub front : IsFront new
