-- An entry that may follow those of a legal account breaks no rule after them: for each rule, what keeps it.
use Rattle.rv_audit.proofs.Words.{◌≡◌, ◌≢◌, ◌⊎◌, ◌<◌, ◌≤◌, ◌∙◌, inl, inr, ℕ, List, length, Some, IsSome}
use Rattle.rv_audit.proofs.Words.{refl, ap, subst, arith, Key, Call, Side, Entry, Act, Hello, Arrive}
use Rattle.rv_audit.proofs.Words.{Cancel, Tick, Account, call_in, may_name, opposite, Met, IsNextNumber}
use Rattle.rv_audit.proofs.Words.{Legal, MayFollow, NamesFreePartners, SomethingDue, call_read, Rule, M1}
use Rattle.rv_audit.proofs.Words.{M2, M3, N1, N2, N3, P1, P2, P3, P4, S1, S2, BreaksBehind, IsNoFreePlace}
use Rattle.rv_audit.proofs.Words.{IsOutOfOrder, IsPaired, MeetsWrongly, MissesPartner, NamesTaken}
use Rattle.rv_audit.proofs.Words.{PassesOver, StartsNoNewer}
use Rattle.rv_account.specs.Account.{NamesAt}
use Rattle.rv_account.specs.rules.Waiting.{NamesPartner}
use Rattle.rv_account.specs.rules.Legal.{CancelsInTurn, CountsUp, IsOfSession, KeepsLimits, KeepsTime}
use Rattle.rv_account.specs.rules.Legal.{PairsOldest}
use Rattle.rv_account.specs.rules.Legal.{PairsOpposites, PairsWherePossible, RaisesIncarnation}
use Rattle.rv_audit.specs.AccountRules.{BreaksCount, FallsBack, IsOfNoSession, IsSwapped, NamesOne}
use Rattle.rv_audit.specs.AccountRules.{NamesTooMany, NamesWrongly, PassesLimit, TicksForNothing, WasNamed}

-- ---- moments

pub falls_not_back : (a : Account) (e : Entry) → KeepsTime a e.moment → FallsBack a e → ⊥
falls_not_back a e time falls = grind arith

nothing_past : (es : List Entry) (moment : ℕ) (act : Act) → KeepsLimits es moment act → act ≢ Tick
    → SomethingDue es moment → ⊥
nothing_past es moment (Hello client incarnation version) nothing no_tick due = nothing due.0 due.1
nothing_past es moment (Arrive key call) nothing no_tick due = nothing due.0 due.1
nothing_past es moment (Cancel key) nothing no_tick due = nothing due.0 due.1
nothing_past es moment Tick something no_tick due = no_tick refl

pub passes_no_limit : (es : List Entry) (e : Entry) → KeepsLimits es e.moment e.act → PassesLimit es e → ⊥
passes_no_limit es e keeps passes = nothing_past es e.moment e.act keeps passes.no_tick passes.due

pub ticks_for_something : (es : List Entry) (e : Entry) → KeepsLimits es e.moment e.act → TicksForNothing es e
    → ⊥
ticks_for_something es e keeps ticks =
    let something : SomethingDue es e.moment = subst (λ act. KeepsLimits es e.moment act) ticks.ticks keeps in
    ticks.nothing_due something.0 something.1

-- ---- numbers

pub starts_newer : (es : List Entry) (does : Act) → RaisesIncarnation es does → StartsNoNewer es does → ⊥
starts_newer es does raises starts = grind arith

pub is_of_session : (a : Account) (does : Act) → IsOfSession a does → IsOfNoSession a does → ⊥
is_of_session a does session strange = grind arith

next_in_turn : (es : List Entry) (key : Key) → IsNextNumber es key → IsOutOfOrder es key → ⊥
next_in_turn = grind arith

pub counts_in_turn : (es : List Entry) (does : Act) → CountsUp es does → CancelsInTurn es does
    → BreaksCount es does → ⊥
counts_in_turn es (Hello client incarnation version) counts cancels breaks = breaks
counts_in_turn es (Arrive key call) counts cancels breaks = next_in_turn es key (counts key call refl) breaks
counts_in_turn es (Cancel key) counts cancels breaks = elim (cancels key refl) [
  | inl waits ↦ breaks.0 waits
  | inr next ↦ next_in_turn es key next breaks.1
]
counts_in_turn es Tick counts cancels breaks = breaks

-- ---- partners

-- in a legal account only arrivals that may meet name partners
pub names_partner : (a : Account) (r q : ℕ) → Legal a → NamesAt a.entries r q → NamesPartner a.entries r q
names_partner a r q legal named =
    let free = (legal r named.entry named.there).pairs.names_free_partners.free q named.names in
    record {
      call = free.call;
      arrived = ap call_read named.there ∙ free.arrives;
      meets = free.meets;
      named =
          named;
    }

-- so who was named, or named a partner itself, is in a pair or swap
pub named_is_met : (a : Account) (p : ℕ) → Legal a → WasNamed a.entries p ⊎ NamesOne a.entries p
    → Met a.entries p
named_is_met = grind (arith, names_partner)

names_free : (a : Account) (e : Entry) → Legal a → NamesFreePartners a.entries e → NamesTaken a.entries e → ⊥
names_free a e legal names wrongly =
    let free = names.free wrongly.partner wrongly.names in
    elim wrongly.wrong [
      | inl nobody ↦ nobody (free.call, free.arrives, free.meets)
      | inr no_free ↦ taken free.earlier (λ named. free.unmet (named_is_met a wrongly.partner legal named))
          no_free
    ]
  where
    taken : {p : ℕ} → p < length a.entries → (WasNamed a.entries p ⊎ NamesOne a.entries p → ⊥)
        → IsNoFreePlace a.entries p → ⊥
    taken earlier unnamed (inl later) = omega arith
    taken earlier unnamed (inr named) = unnamed named

names_few : (e : Entry) → ((call : Call) → call_in e.act ≡ Some call → length e.partners ≤ may_name call)
    → NamesTooMany e → ⊥
names_few e few too = grind arith

pub names_rightly : (a : Account) (e : Entry) → Legal a → NamesFreePartners a.entries e
    → NamesWrongly a.entries e → ⊥
names_rightly a e legal names (inl taken) = names_free a e legal names taken
names_rightly a e legal names (inr (inl many)) = names_few e names.few many
names_rightly a e legal names (inr (inr falls)) = falls names.rising

pub paired_meets : (side : Side) → IsPaired side → IsSome (opposite side)
paired_meets = grind arith

pub swapped_meets : (side : Side) → IsSwapped side → IsSome (opposite side)
swapped_meets = grind arith

module _ (Is : Side → Type 0) (es : List Entry) (e : Entry) where
  pub meets_rightly : ((side : Side) → Is side → IsSome (opposite side)) → PairsOpposites es e
      → MeetsWrongly Is es e → ⊥
  meets_rightly meets pairs wrongly = grind arith

  pub meets_somebody : PairsWherePossible es e → MissesPartner Is es e → ⊥
  meets_somebody possible nobody = nobody.unnamed (possible nobody.other nobody.call nobody.arrives.arrives
      nobody.fewer nobody.opposite_there)

pub passes_nobody_over : (es : List Entry) (e : Entry) → PairsOldest es e → PassesOver es e → ⊥
passes_nobody_over es e oldest passes = passes.unnamed (oldest passes.partner passes.passed passes.side
    passes.names passes.is_partners passes.earlier passes.there)

-- ---- all rules

pub breaks_nothing : (a : Account) (e : Entry) → Legal a → MayFollow a e → (rule : Rule)
    → BreaksBehind rule a e → ⊥
breaks_nothing a e legal follows M1 breaks = falls_not_back a e follows.moments.keeps_time breaks
breaks_nothing a e legal follows M2 breaks = passes_no_limit a.entries e follows.moments.keeps_limits breaks
breaks_nothing a e legal follows M3 breaks = ticks_for_something a.entries e follows.moments.keeps_limits
    breaks
breaks_nothing a e legal follows N1 breaks = starts_newer a.entries e.act follows.numbers.raises_incarnation
    breaks
breaks_nothing a e legal follows N2 breaks = is_of_session a e.act follows.numbers.of_session breaks
breaks_nothing a e legal follows N3 breaks = counts_in_turn a.entries e.act follows.numbers.counts_up
    follows.numbers.cancels breaks
breaks_nothing a e legal follows P1 breaks = names_rightly a e legal follows.pairs.names_free_partners breaks
breaks_nothing a e legal follows P2 breaks = meets_rightly IsPaired a.entries e paired_meets
    follows.pairs.pairs_opposites breaks
breaks_nothing a e legal follows P3 breaks = passes_nobody_over a.entries e follows.pairs.pairs_oldest breaks
breaks_nothing a e legal follows P4 breaks = meets_somebody IsPaired a.entries e
    follows.pairs.pairs_where_possible breaks
breaks_nothing a e legal follows S1 breaks = meets_rightly IsSwapped a.entries e swapped_meets
    follows.pairs.pairs_opposites breaks
breaks_nothing a e legal follows S2 breaks = meets_somebody IsSwapped a.entries e
    follows.pairs.pairs_where_possible breaks
