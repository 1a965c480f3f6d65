-- Which rule an entry breaks first, decided by a state alone: the words of an audit, over states.
--
-- For each rule, this says what keeps it. A state can't decide one case: an entry that names well, except for
-- a place where nothing is open. Whether that place was met or named before (P1), or is one that the entry
-- could never meet (P2 or S1), depends on the past.
use Rattle.std.specs.Prelude.{◌≡◌, ◌≢◌, ◌<◌, ◌≤◌, ℕ}
use Rattle.rv_text.specs.declared.call.Call.{Call}
use Rattle.rv_text.specs.declared.call.Side.{Side}
use Rattle.rv_account.specs.declared.entry.Entry.{Entry}
use Rattle.rv_account.specs.declared.entry.Act.TheVariants.{Tick}
use Rattle.rv_account.specs.Account.{Among, Names}
use Rattle.rv_account.specs.state.Follows.{DueOnlyAtTick}
use Rattle.rv_account.specs.state.Kept.{HelloRises, KeyInSession, NamesAll, NamesOldest, NamesOpen}
use Rattle.rv_account.specs.state.Kept.{NamesOpposites}
use Rattle.rv_account.specs.state.Kept.{NamesWell, NumberInTurn}
use Rattle.rv_account.specs.state.State.{State, place_list}
use Rattle.rv_audit.specs.AccountRules.{ArrivesAs, IsPaired, IsSwapped, rank_of}
use Rattle.rv_audit.specs.declared.rule.Rule.{Rule}
use Rattle.rv_audit.specs.declared.rule.Rule.TheVariants.{M1, M2, M3, N1, N2, N3, P1, P2, P3, P4, S1, S2}

-- this holds if an entry arrives on such a side
abbrev pub IfArrives : (Side → Type 0) → Entry → Type 0 → Type 0
IfArrives Is e Holds = (call : Call) → ArrivesAs Is e call → Holds

-- after the state, the entry keeps the rule
abbrev pub KeepsRule : Rule → State → Entry → Type 0
KeepsRule M1 s e = s.moment ≤ e.moment
KeepsRule M2 s e = e.act ≢ Tick → DueOnlyAtTick s e.moment e.act
KeepsRule M3 s e = e.act ≡ Tick → DueOnlyAtTick s e.moment e.act
KeepsRule N1 s e = HelloRises s e.act
KeepsRule N2 s e = KeyInSession s e.act
KeepsRule N3 s e = NumberInTurn s e.act
KeepsRule P1 s e = NamesWell s e
KeepsRule P2 s e = IfArrives IsPaired e (NamesOpposites s e)
KeepsRule P3 s e = IfArrives IsPaired e (NamesOldest s e)
KeepsRule P4 s e = IfArrives IsPaired e (NamesAll s e)
KeepsRule S1 s e = IfArrives IsSwapped e (NamesOpposites s e)
KeepsRule S2 s e = IfArrives IsSwapped e (NamesAll s e)

-- the entry keeps the first so many rules, in the order in which they are checked
abbrev pub KeepsUpTo : ℕ → State → Entry → Type 0
KeepsUpTo n s e = (other : Rule) → rank_of other < n → KeepsRule other s e

-- the entry breaks this rule and none before it; and if the rule comes after P1, each place that it names is
-- open
pub record IsFirstBroken (s : State) (e : Entry) (rule : Rule) : Type 0 where
  pub broken : ¬ KeepsRule rule s e
  pub first : KeepsUpTo (rank_of rule) s e
  pub named_open : rank_of P1 < rank_of rule → NamesOpen s e

-- the entry keeps all rules up to P1, but names a place where nothing is open
pub record NamesClosed (s : State) (e : Entry) : Type 0 where
  pub kept : KeepsUpTo (rank_of P2) s e
  pub place : ℕ
  pub names : Names e place
  pub closed : ¬ Among (place_list s.open_places) place

-- the rule is on the places that an entry names: which it may name (P1), or which of them it could meet (P2,
-- S1)
abbrev pub IsOnNamed : Rule → Type 0
IsOnNamed M1 = ⊥
IsOnNamed M2 = ⊥
IsOnNamed M3 = ⊥
IsOnNamed N1 = ⊥
IsOnNamed N2 = ⊥
IsOnNamed N3 = ⊥
IsOnNamed P1 = Unit {0}
IsOnNamed P2 = Unit {0}
IsOnNamed P3 = ⊥
IsOnNamed P4 = ⊥
IsOnNamed S1 = Unit {0}
IsOnNamed S2 = ⊥
