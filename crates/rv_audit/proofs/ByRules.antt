-- An account is legal exactly where no rule is broken at any place, and an audit tells one thing of it.
use Rattle.rv_audit.proofs.Words.{◌≡◌, ◌<◌, ◌∙◌, inl, inr, ℕ, zero, suc, List, Some, refl, sym, ap}
use Rattle.rv_audit.proofs.Words.{subst, arith, slice_get, cases_lt, Entry, Account, before, Legal}
use Rattle.rv_audit.proofs.Words.{MayFollow, read_whole}
use Rattle.std.proofs.lemmas.Bool.{cases_order}
use Rattle.std.proofs.lemmas.List.{take-take}
use Rattle.rv_account.proofs.OfRules.Fronts.{Legal-before}
use Rattle.rv_audit.specs.declared.rule.Rule.{Rule}
use Rattle.rv_audit.specs.AccountRules.{rank_of}
use Rattle.rv_audit.specs.Faults.{FirstFault, KeepsRules}
use Rattle.rv_audit.specs.Laws.{LegalByRules, OneAudit}
use Rattle.rv_audit.proofs.Ranks.{one_rank}
use Rattle.rv_audit.proofs.RulesKept.{breaks_nothing}
use Rattle.rv_audit.proofs.RulesSuffice.{may_follow}
use Rattle.rv_audit.specs.declared.outcome.Audit.TheVariants as tells

pub keeps_rules : (a : Account) → Legal a → (place : ℕ) → KeepsRules a place
keeps_rules a legal place rule broken = breaks_nothing (before a place) broken.entry (Legal-before a place
    legal) (legal place broken.entry broken.there) rule broken.breaks

-- each entry before the bound may follow those before it
abbrev FollowsBelow : Account → ℕ → Type 0
FollowsBelow a n = (j : ℕ) (e : Entry) → j < n → slice_get a.entries j ≡ Some e → MayFollow (before a j) e

front_by : (a : Account) (n : ℕ) → FollowsBelow a n → Legal (before a n)
front_by a n follows j e there =
    let whole = read_whole (λ o. o) refl a.entries n j e there in
    let less : j < n = whole.0 in
    let P : List Entry
    → Type 0 = λ entries. MayFollow (record { epoch = a.epoch; opened = a.opened; entries = entries }) e
    in
    subst P (sym (take-take j n a.entries (omega arith))) (follows j e less whole.1)

follows_below : (a : Account) (n : ℕ) → ((r : ℕ) → r < n → KeepsRules a r) → FollowsBelow a n
follows_below a zero keeps j e less there = absurd (omega arith)
follows_below a (suc n) keeps j e less there =
    let earlier : FollowsBelow a n = follows_below a n (λ r below. keeps r (omega arith)) in
    elim (cases_lt j n) [
      | inl below ↦ earlier j e below there
      | inr above ↦
          let is : j ≡ n = omega arith in
          let legal : Legal (before a j) = front_by a j (subst (FollowsBelow a) (sym is) earlier) in
          may_follow (before a j) e legal (λ rule breaks. keeps j less rule
          (record { entry = e; there = there; breaks = breaks }))
    ]

pub legal_by_rules : LegalByRules
legal_by_rules a = (
  keeps_rules a,
  λ keeps j e there. follows_below a (suc j) (λ r less. keeps r) j e
      (omega arith) there,
)

-- ---- one audit

one_place : (a : Account) (p q : ℕ) (r s : Rule) → FirstFault a p r → FirstFault a q s → p ≡ q
one_place a p q r s first second = elim (cases_order p q) [
  | inl same ↦ same
  | inr differ ↦ elim differ [
    | inl less ↦ absurd (second.kept_before p less r first.broken)
    | inr more ↦ absurd (first.kept_before q more s second.broken)
  ]
]

one_rule : (a : Account) (p : ℕ) (r s : Rule) → FirstFault a p r → FirstFault a p s → r ≡ s
one_rule a p r s first second = elim (cases_order (rank_of r) (rank_of s)) [
  | inl same ↦ one_rank r s same
  | inr differ ↦ elim differ [
    | inl less ↦ absurd (second.first r less first.broken)
    | inr more ↦ absurd (first.first s more second.broken)
  ]
]

one_fault : (a : Account) (p q : ℕ) (r s : Rule) → FirstFault a p r → FirstFault a q s
    → tells.Fault p r ≡ tells.Fault q s
one_fault a p q r s first second =
    let place : p ≡ q = one_place a p q r s first second in
    let rule : r ≡ s = one_rule a q r s (subst (λ n. FirstFault a n r) place first) second in
    ap (λ n. tells.Fault n r) place ∙ ap (tells.Fault q) rule

pub one_audit : OneAudit
one_audit a tells.Legal tells.Legal first second = refl
one_audit a tells.Legal (tells.Fault q s) legal fault = absurd (keeps_rules a legal q s fault.broken)
one_audit a (tells.Fault p r) tells.Legal fault legal = absurd (keeps_rules a legal p r fault.broken)
one_audit a (tells.Fault p r) (tells.Fault q s) first second = one_fault a p q r s first second
