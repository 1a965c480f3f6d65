-- The first fault of an account, and that of a front of it.
use Rattle.std.proofs.Common.{◌≡◌, ◌<◌, ◌≤◌, ◌+◌, ◌∙◌, ℕ, List, inl, inr}
use Rattle.std.proofs.Common.{take, sym, subst, arith, length-take}
use Rattle.std.proofs.lemmas.Bool.{cases_lt}
use Rattle.std.proofs.lemmas.List.{take-take}
use Rattle.rv_account.specs.declared.entry.Entry.{Entry}
use Rattle.rv_account.specs.Account.{Account}
use Rattle.rv_account.specs.rules.Legal.{Legal, before}
use Rattle.rv_account.proofs.OfRules.Fronts.{Legal-before}
use Rattle.rv_account.proofs.OfRules.Places.{get-take, within}
use Rattle.rv_audit.specs.AccountRules.{BreaksBehind}
use Rattle.rv_audit.specs.Faults.{Breaks, FirstFault, KeepsRules}
use Rattle.rv_audit.specs.declared.outcome.Audit.TheVariants as tells
use Rattle.rv_audit.specs.declared.rule.Rule.{Rule}
use Rattle.rv_audit.proofs.ByRules.{legal_by_rules}
use Rattle.rv_verify.specs.Verdicts.{AuditTells}

module _ (a : Account) (m : ℕ) where
  abbrev of_entries : List Entry → Account
  of_entries es = record { epoch = a.epoch; opened = a.opened; entries = es }

  -- what breaks a rule at a place of the front breaks it in the whole, and the other way round
  breaks_out : (rule : Rule) (k : ℕ) → k < m → Breaks rule (before a m) k → Breaks rule a k
  breaks_out rule k less broken = record {
    entry = broken.entry;
    there = sym (get-take a.entries m k less) ∙ broken.there;
    breaks = subst (λ es. BreaksBehind rule (of_entries es) broken.entry)
        (take-take k m a.entries (omega arith)) broken.breaks;
  }

  breaks_in : (rule : Rule) (k : ℕ) → k < m → Breaks rule a k → Breaks rule (before a m) k
  breaks_in rule k less broken = record {
    entry = broken.entry;
    there = get-take a.entries m k less ∙ broken.there;
    breaks = subst (λ es. BreaksBehind rule (of_entries es) broken.entry)
        (sym (take-take k m a.entries (omega arith))) broken.breaks;
  }

  fault_in : (k : ℕ) (rule : Rule) → k < m → FirstFault a k rule → FirstFault (before a m) k rule
  fault_in k rule less fault = record {
    broken = breaks_in rule k less fault.broken;
    kept_before = λ r below other broken. fault.kept_before r below other
        (breaks_out other r (omega arith) broken);
    first = λ other rank broken. fault.first other rank (breaks_out other k less broken);
  }

  legal_front : (k : ℕ) → m ≤ k → ((r : ℕ) → r < k → KeepsRules a r) → Legal (before a m)
  legal_front k most keeps = (legal_by_rules (before a m)).1 (λ r rule broken.
      let less : r < m = omega (
        arith,
        within (take m a.entries) r broken.entry broken.there,
        length-take m a.entries,
      ) in
      keeps r (omega arith) rule (breaks_out rule r less broken))

pub legal_is_no_fault : (place : ℕ) (rule : Rule) → tells.Legal ≡ tells.Fault place rule → ⊥
legal_is_no_fault place rule same = cc

-- what an audit tells of the front up to a place and the entry there, it tells of the whole, if that is a
-- fault at the place
pub whole_illegal : (a : Account) (n : ℕ) (Of : Rule → Type 0) → AuditTells (before a (n + 1)) n Of
    → ¬ Legal a
whole_illegal a n Of told legal =
    let front = told tells.Legal (Legal-before a (n + 1) legal) in
    legal_is_no_fault n front.0 front.1

pub whole_told : (a : Account) (n : ℕ) (Of : Rule → Type 0) → AuditTells (before a (n + 1)) n Of
    → AuditTells a n Of
whole_told a n Of told tells.Legal legal = told tells.Legal (Legal-before a (n + 1) legal)
whole_told a n Of told (tells.Fault place rule) fault = elim (cases_lt place (n + 1)) [
  | inl inside ↦ told (tells.Fault place rule) (fault_in a (n + 1) place rule inside fault)
  | inr past ↦
      let front = told tells.Legal (legal_front a (n + 1) place (omega arith) fault.kept_before) in
      absurd (legal_is_no_fault n front.0 front.1)
]
