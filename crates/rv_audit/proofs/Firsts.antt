-- From the first rule that an entry breaks to an account's first fault.
use Rattle.rv_audit.proofs.ByRules.{keeps_rules}
use Rattle.rv_audit.proofs.Words.{◌≡◌, ◌<◌, ◌∷◌, ◌∙◌, ℕ, zero, suc, List, [], length, take, Some}
use Rattle.rv_audit.proofs.Words.{None, refl, sym, ap, subst, arith, slice_get, none-some}
use Rattle.rv_audit.proofs.Words.{same_Some, Entry, Account, Legal, before, BreaksBehind, IsFront}
use Rattle.rv_audit.proofs.Words.{passed_account}
use Rattle.std.proofs.lemmas.List.{take-take}
use Rattle.rv_account.specs.Account.{Stored}
use Rattle.rv_account.proofs.OfRules.Places.{get-take}
use Rattle.rv_audit.specs.declared.front.Front.{Front}
use Rattle.rv_audit.specs.declared.rule.Rule.{Rule}
use Rattle.rv_audit.specs.AccountRules.{BreaksFirst, BreaksNone}
use Rattle.rv_audit.specs.Passed.{MayPass}
use Rattle.rv_audit.specs.Faults.{FirstFault, IsToldOf, KeepsRules}
use Rattle.rv_audit.specs.declared.outcome.Audit.{Audit}
use Rattle.rv_audit.proofs.RulesSuffice.{may_follow}
use Rattle.rv_audit.specs.declared.outcome.Audit.TheVariants as tells

-- ---- one place after the other

kept_before : (a : Account) (n r : ℕ) → Legal (before a n) → r < n → KeepsRules a r
kept_before a n r legal less rule broken =
    let P : List Entry → Type 0 = λ es. BreaksBehind rule
    (record { epoch = a.epoch; opened = a.opened; entries = es }) broken.entry in
    keeps_rules (before a n) legal r rule (record {
      entry = broken.entry;
      there = get-take a.entries n r less ∙ broken.there;
      breaks = subst P (sym (take-take r n a.entries (omega arith))) broken.breaks;
    })

pub first_fault : (a : Account) (n : ℕ) (e : Entry) (rule : Rule) → Legal (before a n)
    → slice_get a.entries n ≡ Some e → BreaksFirst (before a n) e rule → FirstFault a n rule
first_fault a n e rule legal there first = record {
  broken = record { entry = e; there = there; breaks = first.broken };
  kept_before = λ r less. kept_before a n r legal less;
  first = λ other less broken.
      let same : broken.entry ≡ e = same_Some _ _ (sym broken.there ∙ there) in
      first.first other less (subst (BreaksBehind other (before a n)) same broken.breaks);
}

no_fault : (a : Account) (n : ℕ) (rule : Rule) → Legal a → FirstFault a n rule → ⊥
no_fault a n rule legal fault = keeps_rules a legal n rule fault.broken

take_past : (es : List Entry) (n : ℕ) → slice_get es n ≡ None → take n es ≡ es
take_past [] zero none = refl
take_past [] (suc n) none = refl
take_past (e ∷ es) zero none = absurd (none-some e (sym none))
take_past (e ∷ es) (suc n) none = ap (λ xs. e ∷ xs) (take_past es n none)

pub all_passed : (a : Account) (n : ℕ) → Legal (before a n) → slice_get a.entries n ≡ None → Legal a
all_passed a n legal none = subst (λ (es : List Entry). Legal (record {
  epoch = a.epoch;
  opened = a.opened;
  entries = es;
})) (take_past a.entries n none) legal

-- the next entry may be passed
pub may_pass : (front : Front) (e : Entry) → IsFront front
    → slice_get front.account.now.account.entries (length front.taken.items) ≡ Some e
    → BreaksNone (passed_account front) e → MayPass front e
may_pass front e is there none = record {
  there = there;
  follows = may_follow (passed_account front) e
      is.legal none;
}

-- ---- what a front tells, at the place that comes next

module _ (front : Front) (a : Stored) (n : ℕ) (is : IsFront front) (same : front.account.now ≡ a)
    (at : n ≡ length front.taken.items) where
  next_there : (e : Entry) → Some e ≡ slice_get a.account.entries n
      → slice_get front.account.now.account.entries (length front.taken.items) ≡ Some e
  next_there e there = grind arith

  pub fault_told : (e : Entry) (rule : Rule) (place : ℕ) → place ≡ length front.taken.items
      → Some e ≡ slice_get a.account.entries n → BreaksFirst (passed_account front) e rule
      → FirstFault a.account place rule
  fault_told = grind (arith, first_fault, next_there)

  pub next_may : (e : Entry) → Some e ≡ slice_get a.account.entries n → BreaksNone (passed_account front) e
      → MayPass front e
  next_may e there none = may_pass front e is (next_there e there) none

  pub legal_told : None ≡ slice_get a.account.entries n → Legal a.account
  legal_told none =
      let past : slice_get front.account.now.account.entries (length front.taken.items) ≡ None =
      ap (λ (s : Stored). slice_get s.account.entries (length front.taken.items)) same
      ∙ ap (slice_get a.account.entries) (sym at) ∙ sym none in
      subst (λ (s : Stored). Legal s.account) same (all_passed front.account.now.account
      (length front.taken.items) is.legal past)

-- ---- what is told

-- the result is that the account is legal exactly where it is
abbrev pub IsLegalIf : Account → Audit → Type 0
IsLegalIf a told = (told ≡ tells.Legal → Legal a) × (Legal a → told ≡ tells.Legal)

pub legal_if_told : (a : Account) (told : Audit) → IsToldOf a told → IsLegalIf a told
legal_if_told a tells.Legal legal = (λ same. legal, λ is. refl)
legal_if_told a (tells.Fault place rule) fault = (
  λ same. absurd (let differ : ⊥ = cc in differ),
  λ legal. absurd (no_fault a place rule legal fault),
)
