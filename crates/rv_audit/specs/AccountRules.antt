-- What breaks each rule of an audit at a place, and which rule an entry breaks first.
--
-- An entry is checked after the entries before it, in the words in which the rules say which entry may stand
-- where. Each rule has its own condition for being broken, whether or not another is broken there. What is
-- open is defined by pairs and swaps, which only arrivals that may meet make; in a legal account nothing else
-- names partners.
use Rattle.std.specs.Prelude.{◌≡◌, ◌≢◌, ◌⊎◌, ◌<◌, ◌≤◌, ◌+◌, ℕ, List, length, Some, codes}
use Rattle.std.specs.List.Sorted.{IsStrictlyIncreasing}
use Rattle.rv_text.specs.declared.version.Version.{Version}
use Rattle.rv_text.specs.declared.message.Key.{Key}
use Rattle.rv_text.specs.declared.call.Call.{Call}
use Rattle.rv_text.specs.declared.call.Side.{Side}
use Rattle.rv_text.specs.declared.call.Side.TheVariants.{Gives, Takes, Looks, Exchanges}
use Rattle.rv_text.specs.Calls.{side_of}
use Rattle.rv_account.specs.declared.entry.Entry.{Entry}
use Rattle.rv_account.specs.declared.entry.Act.{Act}
use Rattle.rv_account.specs.declared.entry.Act.TheVariants.{Hello, Arrive, Cancel, Tick}
use Rattle.rv_account.specs.Account.{Account, Names, NamesAt, act_at, call_in, key_in}
use Rattle.rv_account.specs.Calls.{MayMeet, may_name}
use Rattle.rv_account.specs.rules.Sessions.{HasIncarnation, LastNumber, SaidHello}
use Rattle.rv_account.specs.rules.Waiting.{OpenAt, SideAt}
use Rattle.rv_account.specs.rules.Legal.{HasWaiting, IsOpenOpposite, NothingDue, SomethingDue, WaitsUnder}
use Rattle.rv_account.specs.rules.Steps.{own_moment}
use Rattle.rv_audit.specs.declared.rule.Rule.{Rule}
use Rattle.rv_audit.specs.declared.rule.Rule.TheVariants.{M1, M2, M3, N1, N2, N3, P1, P2, P3, P4, S1, S2}

-- ---- moments

-- the entry's moment is below that of the entry before it, or, at the first place, below the opening moment
abbrev pub FallsBack : Account → Entry → Type 0
FallsBack a e = e.moment < own_moment a

-- the limit of a waiting request has come, and the entry isn't a tick
pub record PassesLimit (entries : List Entry) (e : Entry) : Type 0 where
  pub no_tick : e.act ≢ Tick
  pub due : SomethingDue entries e.moment

-- the entry is a tick, though nothing is due: the limit of no waiting request has come
pub record TicksForNothing (entries : List Entry) (e : Entry) : Type 0 where
  pub ticks : e.act ≡ Tick
  pub nothing_due : NothingDue entries e.moment

-- ---- numbers

-- it is a hello, and an earlier one of its client has the same incarnation or a greater one
pub record StartsNoNewer (entries : List Entry) (does : Act) : Type 0 where
  pub client : ℕ
  pub incarnation : ℕ
  pub version : Version
  pub hello : does ≡ Hello client incarnation version
  pub place : ℕ
  pub reached : ℕ
  pub earlier_version : Version
  pub earlier : act_at entries place ≡ Some (Hello client reached earlier_version)
  pub no_newer : incarnation ≤ reached

-- the entry names a key with an epoch other than the account's, or with an incarnation other than that of its
-- client's last hello, or of a client that said no hello
pub record IsOfNoSession (a : Account) (does : Act) : Type 0 where
  pub key : Key
  pub names : key_in does ≡ Some key
  pub no_session : (key.epoch ≢ a.epoch) ⊎ (¬ HasIncarnation a.entries key.client key.incarnation)

-- the client's greatest number since its last hello is n; n is 0 if it has none, or said no hello
abbrev pub CountsTo : List Entry → ℕ → ℕ → Type 0
CountsTo entries client n = LastNumber entries client n ⊎ ((¬ SaidHello entries client) × (n ≡ 0))

-- the key's number isn't its session's last plus one
pub record IsNotNext (entries : List Entry) (key : Key) : Type 0 where
  pub last : ℕ
  pub counts_to : CountsTo entries key.client last
  pub other : key.number ≢ last + 1

-- the key isn't next, or a request of its session waits
abbrev pub IsOutOfOrder : List Entry → Key → Type 0
IsOutOfOrder entries key = IsNotNext entries key ⊎ HasWaiting entries key.client

-- an arrival is out of order; or a cancel is, and doesn't name the request that waits in its session
abbrev pub BreaksCount : List Entry → Act → Type 0
BreaksCount entries (Hello client incarnation version) = ⊥
BreaksCount entries (Arrive key call) = IsOutOfOrder entries key
BreaksCount entries (Cancel key) = (¬ WaitsUnder entries key) × IsOutOfOrder entries key
BreaksCount entries Tick = ⊥

-- ---- partners

-- the entry gives, takes or exchanges
abbrev pub ArrivesToMeet : Entry → Type 0
ArrivesToMeet e = (call : Call) × (call_in e.act ≡ Some call) × MayMeet call

-- an entry names this place as a partner; the entry at this place names a partner
abbrev pub WasNamed : List Entry → ℕ → Type 0
WasNamed entries place = (r : ℕ) × NamesAt entries r place

abbrev pub NamesOne : List Entry → ℕ → Type 0
NamesOne entries place = (q : ℕ) × NamesAt entries place q

-- the place isn't that of an earlier entry, or was named already, or named a partner itself
abbrev pub IsNoFreePlace : List Entry → ℕ → Type 0
IsNoFreePlace entries place = (length entries ≤ place) ⊎ (WasNamed entries place ⊎ NamesOne entries place)

-- the entry names a partner, and may name none, or not this one
pub record NamesTaken (entries : List Entry) (e : Entry) : Type 0 where
  pub partner : ℕ
  pub names : Names e partner
  pub wrong : (¬ ArrivesToMeet e) ⊎ IsNoFreePlace entries partner

-- the entry names more partners than its call may
pub record NamesTooMany (e : Entry) : Type 0 where
  pub call : Call
  pub arrives : call_in e.act ≡ Some call
  pub many : may_name call < length e.partners

-- the entry names a taken partner or too many, or its partners don't rise
abbrev pub NamesWrongly : List Entry → Entry → Type 0
NamesWrongly entries e = NamesTaken entries e ⊎ (NamesTooMany e ⊎ ¬ IsStrictlyIncreasing e.partners)

-- the side gives or takes; the side exchanges
abbrev pub IsPaired : Side → Type 0
IsPaired (Gives queue) = Unit {0}
IsPaired (Takes queue) = Unit {0}
IsPaired (Looks queue) = ⊥
IsPaired (Exchanges exchanger) = ⊥

abbrev pub IsSwapped : Side → Type 0
IsSwapped (Gives queue) = ⊥
IsSwapped (Takes queue) = ⊥
IsSwapped (Looks queue) = ⊥
IsSwapped (Exchanges exchanger) = Unit {0}

-- the entry is an arrival on such a side, with this call
pub record ArrivesAs (Is : Side → Type 0) (e : Entry) (call : Call) : Type 0 where
  pub arrives : call_in e.act ≡ Some call
  pub is : Is (side_of call)

-- the entry is an arrival on such a side, and names a partner that isn't an open arrival which it meets: one
-- on its queue's other side, or at its exchanger
pub record MeetsWrongly (Is : Side → Type 0) (entries : List Entry) (e : Entry) : Type 0 where
  pub call : Call
  pub arrives : ArrivesAs Is e call
  pub partner : ℕ
  pub names : Names e partner
  pub no_opposite : ¬ IsOpenOpposite entries call partner

-- the entry gives or takes, and before one of its partners comes an open arrival of that partner's side and
-- queue that isn't among its partners
pub record PassesOver (entries : List Entry) (e : Entry) : Type 0 where
  pub call : Call
  pub arrives : ArrivesAs IsPaired e call
  pub partner : ℕ
  pub names : Names e partner
  pub side : Side
  pub of_queue : IsPaired side
  pub is_partners : SideAt entries side partner
  pub passed : ℕ
  pub earlier : passed < partner
  pub there : OpenAt entries side passed
  pub unnamed : ¬ Names e passed

-- the entry is an arrival on such a side and names fewer partners than it may, though there is an open
-- arrival that it meets and that isn't among them
pub record MissesPartner (Is : Side → Type 0) (entries : List Entry) (e : Entry) : Type 0 where
  pub call : Call
  pub arrives : ArrivesAs Is e call
  pub fewer : length e.partners < may_name call
  pub other : ℕ
  pub opposite_there : IsOpenOpposite entries call other
  pub unnamed : ¬ Names e other

-- ---- the rules

-- an entry breaks the rule after the entries of an account
abbrev pub BreaksBehind : Rule → Account → Entry → Type 0
BreaksBehind M1 a e = FallsBack a e
BreaksBehind M2 a e = PassesLimit a.entries e
BreaksBehind M3 a e = TicksForNothing a.entries e
BreaksBehind N1 a e = StartsNoNewer a.entries e.act
BreaksBehind N2 a e = IsOfNoSession a e.act
BreaksBehind N3 a e = BreaksCount a.entries e.act
BreaksBehind P1 a e = NamesWrongly a.entries e
BreaksBehind P2 a e = MeetsWrongly IsPaired a.entries e
BreaksBehind P3 a e = PassesOver a.entries e
BreaksBehind P4 a e = MissesPartner IsPaired a.entries e
BreaksBehind S1 a e = MeetsWrongly IsSwapped a.entries e
BreaksBehind S2 a e = MissesPartner IsSwapped a.entries e

-- the rule's place in the order in which the rules are checked at one place
abbrev pub rank_of : Rule → ℕ
rank_of M1 = 0
rank_of M2 = 1
rank_of M3 = 2
rank_of N1 = 3
rank_of N2 = 4
rank_of N3 = 5
rank_of P1 = 6
rank_of P2 = 7
rank_of P3 = 8
rank_of P4 = 9
rank_of S1 = 10
rank_of S2 = 11

-- the entry breaks none of the first so many rules
abbrev pub KeepsBefore : ℕ → Account → Entry → Type 0
KeepsBefore n a e = (other : Rule) → rank_of other < n → ¬ BreaksBehind other a e

-- the entry breaks this rule, and none before it in the order in which they are checked
pub record BreaksFirst (a : Account) (e : Entry) (rule : Rule) : Type 0 where
  pub broken : BreaksBehind rule a e
  pub first : KeepsBefore (rank_of rule) a e

abbrev pub BreaksNone : Account → Entry → Type 0
BreaksNone a e = (rule : Rule) → ¬ BreaksBehind rule a e

-- how the rule is printed
abbrev pub name_of : Rule → List ℕ
name_of M1 = codes "M1"
name_of M2 = codes "M2"
name_of M3 = codes "M3"
name_of N1 = codes "N1"
name_of N2 = codes "N2"
name_of N3 = codes "N3"
name_of P1 = codes "P1"
name_of P2 = codes "P2"
name_of P3 = codes "P3"
name_of P4 = codes "P4"
name_of S1 = codes "S1"
name_of S2 = codes "S2"
