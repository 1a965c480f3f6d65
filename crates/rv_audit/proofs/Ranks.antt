-- The rules in the order in which an audit checks them, and what the first of them tell of an entry.
use Rattle.rv_audit.proofs.Words.{◌≡◌, ◌+◌, ◌<◌, ◌≤◌, ◌∷◌, ◌∙◌, inl, inr, ℕ, zero, suc, Bool, true, false}
use Rattle.rv_audit.proofs.Words.{List, [], length, get_or, refl, sym, ap, subst, arith, cases_lt}
use Rattle.rv_audit.proofs.Words.{false≢true, IsTrue, Entry, Account, BreaksBehind}
use Rattle.rv_audit.proofs.Words.{Rule, M1, M2, M3, N1, N2, N3, P1, P2, P3, P4, S1, S2}
use Rattle.rv_audit.specs.AccountRules.{BreaksFirst, BreaksNone, KeepsBefore, rank_of}
use Rattle.rv_audit.proofs.Telling.{Iff}

abbrev pub in_order : List Rule
in_order = M1 ∷ M2 ∷ M3 ∷ N1 ∷ N2 ∷ N3 ∷ P1 ∷ P2 ∷ P3 ∷ P4 ∷ S1 ∷ S2 ∷ []

abbrev pub rule_at : ℕ → Rule
rule_at i = get_or in_order i M1

-- each rule stands at its rank
stands : (rule : Rule) → rule_at (rank_of rule) ≡ rule
stands M1 = refl
stands M2 = refl
stands M3 = refl
stands N1 = refl
stands N2 = refl
stands N3 = refl
stands P1 = refl
stands P2 = refl
stands P3 = refl
stands P4 = refl
stands S1 = refl
stands S2 = refl

pub one_rank : (r s : Rule) → rank_of r ≡ rank_of s → r ≡ s
one_rank r s same = sym (stands r) ∙ ap rule_at same ∙ stands s

below_all : (rule : Rule) → rank_of rule < 12
below_all = grind arith

-- the ranks of these rules rise one by one from a number
abbrev AreRanked : ℕ → List Rule → Type 0
AreRanked n [] = Unit {0}
AreRanked n (rule ∷ rest) = (rank_of rule ≡ n) × AreRanked (n + 1) rest

ranked_at : (n i : ℕ) (rules : List Rule) → AreRanked n rules → i < length rules
    → rank_of (get_or rules i M1) ≡ n + i
ranked_at n i [] are within = absurd (omega arith)
ranked_at n zero (rule ∷ rest) are within = let own : rank_of rule ≡ n = are.0 in omega arith
ranked_at n (suc i) (rule ∷ rest) are within =
    let next = ranked_at (n + 1) i rest are.1 (omega arith) in omega arith

rank_at : (i : ℕ) → i < 12 → rank_of (rule_at i) ≡ i
rank_at i within =
    let at = ranked_at 0 i in_order
    (refl, (refl, (refl, (refl, (refl, (refl, (refl, (refl, (refl, (refl, (refl, (refl, tt)))))))))))) within
    in
    omega arith

-- an entry that breaks none of the first so many rules
module _ (a : Account) (e : Entry) (i : ℕ) (kept : KeepsBefore i a e) where
  pub keeps_up_to : i < 12 → KeepsBefore (rank_of (rule_at i)) a e
  keeps_up_to within = subst (λ n. KeepsBefore n a e) (sym (rank_at i within)) kept

  pub breaks_next : (b : Bool) → i < 12 → b ≡ true → Iff (IsTrue b) (BreaksBehind (rule_at i) a e)
      → BreaksFirst a e (rule_at i)
  breaks_next b within broken told = record { broken = told.0 broken; first = keeps_up_to within }

  pub keeps_next : (b : Bool) → i < 12 → b ≡ false → Iff (IsTrue b) (BreaksBehind (rule_at i) a e)
      → KeepsBefore (i + 1) a e
  keeps_next b within keeps told other less breaks = elim (cases_lt (rank_of other) i) [
    | inl before ↦ kept other before breaks
    | inr above ↦
        let here : rank_of other ≡ i = omega arith in
        let is = one_rank other (rule_at i) (here ∙ sym (rank_at i within)) in
        false≢true (sym keeps ∙ told.1 (subst (λ rule. BreaksBehind rule a e) is breaks))
  ]

  pub keeps_all : 12 ≤ i → BreaksNone a e
  keeps_all past rule breaks = kept rule (let below = below_all rule in omega arith) breaks

-- what is told of one rule is told of a rule that is that one
pub of_rule : (a : Account) (e : Entry) (b : Bool) (rule own : Rule) → rule ≡ own
    → Iff (IsTrue b) (BreaksBehind own a e) → Iff (IsTrue b) (BreaksBehind rule a e)
of_rule a e b rule own is told = subst (λ r. Iff (IsTrue b) (BreaksBehind r a e)) (sym is) told
