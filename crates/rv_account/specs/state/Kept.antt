-- The rules of a legal account one by one, each asked of the state: which of them an entry keeps there.
use Rattle.std.specs.Prelude.{◌≡◌, ◌⊎◌, ◌↔◌, ◌<◌, ◌≤◌, ℕ, length, Some}
use Rattle.std.specs.List.Sorted.{IsStrictlyIncreasing}
use Rattle.rv_text.specs.declared.message.Key.{Key}
use Rattle.rv_text.specs.declared.call.Call.{Call}
use Rattle.rv_account.specs.declared.entry.Entry.{Entry}
use Rattle.rv_account.specs.declared.entry.Act.{Act}
use Rattle.rv_account.specs.declared.entry.Act.TheVariants.{Hello, Arrive, Cancel, Tick}
use Rattle.rv_account.specs.Account.{Account, Among, Names, call_in, key_in}
use Rattle.rv_account.specs.Calls.{MayMeet, may_name}
use Rattle.rv_account.specs.rules.Legal.{CancelsInTurn, CountsUp, IsOfSession, KeepsLimits, KeepsTime}
use Rattle.rv_account.specs.rules.Legal.{NamesFreePartners}
use Rattle.rv_account.specs.rules.Legal.{PairsOldest, PairsOpposites, PairsWherePossible, RaisesIncarnation}
use Rattle.rv_account.specs.state.State.{ClientState, State, opposites, place_list}
use Rattle.rv_account.specs.state.Follows.{DueOnlyAtTick, InSession, IsNewIncarnation, NumberIsNext}
use Rattle.rv_account.specs.state.Follows.{NumberWaits}

-- a hello is of a greater incarnation than its client's session
abbrev pub HelloRises : State → Act → Type 0
HelloRises s (Hello client incarnation version) = IsNewIncarnation s client incarnation
HelloRises s (Arrive key call) = Unit {0}
HelloRises s (Cancel key) = Unit {0}
HelloRises s Tick = Unit {0}

-- the key that an act names belongs to the session that its client has
abbrev pub KeyInSession : State → Act → Type 0
KeyInSession s does = (key : Key) → key_in does ≡ Some key → (session : ClientState) × InSession s key session

-- an arrival has the next number of its session, and a cancel that or the number that waits
abbrev pub NumberInTurn : State → Act → Type 0
NumberInTurn s (Hello client incarnation version) = Unit {0}
NumberInTurn s (Arrive key call) = NumberIsNext s key
NumberInTurn s (Cancel key) = NumberWaits s key ⊎ NumberIsNext s key
NumberInTurn s Tick = Unit {0}

-- the places that an entry names rise, are no more than its call may name, and stand before it; only an
-- arrival that may meet names one
pub record NamesWell (s : State) (e : Entry) : Type 0 where
  pub rising : IsStrictlyIncreasing e.partners
  pub few : (call : Call) → call_in e.act ≡ Some call → length e.partners ≤ may_name call
  pub meets : (p : ℕ) → Names e p → (call : Call) × (call_in e.act ≡ Some call) × MayMeet call
  pub earlier : (p : ℕ) → Names e p → p < s.length

-- each place that it names is open
abbrev pub NamesOpen : State → Entry → Type 0
NamesOpen s e = (p : ℕ) → Names e p → Among (place_list s.open_places) p

-- the place is one that an arrival with this call might meet
abbrev pub IsOpposite : State → Call → ℕ → Type 0
IsOpposite s call p = Among (place_list (opposites s call)) p

-- each place that it names is one that it might meet
abbrev pub NamesOpposites : State → Entry → Type 0
NamesOpposites s e = (p : ℕ) (call : Call) → Names e p → call_in e.act ≡ Some call → IsOpposite s call p

-- one that it might meet and that stands before a named one is named too
abbrev pub NamesOldest : State → Entry → Type 0
NamesOldest s e = (p r : ℕ) (call : Call) → call_in e.act ≡ Some call → Names e p → IsOpposite s call r
    → r < p
    → Names e r

-- an entry with fewer than it may name names all that it might meet
abbrev pub NamesAll : State → Entry → Type 0
NamesAll s e = (r : ℕ) (call : Call) → call_in e.act ≡ Some call → length e.partners < may_name call
    → IsOpposite s call r → Names e r

-- a rule of a legal account is kept exactly if it is kept by the state, as long as those before it are kept.
-- A state leaves one thing open: an entry that names well, except for a place that isn't open, breaks the
-- rule of opposites; whether it also breaks that of free partners, which comes first, depends on whether that
-- place was met or named before
pub record RulesAgree (a : Account) (s : State) (e : Entry) : Type 0 where
  pub time : KeepsTime a e.moment ↔ (s.moment ≤ e.moment)
  pub limits : KeepsLimits a.entries e.moment e.act ↔ DueOnlyAtTick s e.moment e.act
  pub incarnation : RaisesIncarnation a.entries e.act ↔ HelloRises s e.act
  pub session : IsOfSession a e.act ↔ KeyInSession s e.act
  pub number : KeyInSession s e.act
      → (CountsUp a.entries e.act × CancelsInTurn a.entries e.act) ↔ NumberInTurn s e.act
  pub well : NamesFreePartners a.entries e → NamesWell s e
  pub free : NamesWell s e → NamesOpen s e → NamesFreePartners a.entries e
  pub names_open : NamesFreePartners a.entries e → PairsOpposites a.entries e → NamesOpen s e
  pub opposites : NamesWell s e → PairsOpposites a.entries e ↔ NamesOpposites s e
  pub oldest : NamesWell s e → NamesOpposites s e → PairsOldest a.entries e ↔ NamesOldest s e
  pub all : PairsWherePossible a.entries e ↔ NamesAll s e
