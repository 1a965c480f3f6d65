-- The laws of audits, over the definitions alone.
use Rattle.std.specs.Prelude.{◌≡◌, ◌↔◌, ℕ}
use Rattle.rv_account.specs.Account.{Account}
use Rattle.rv_account.specs.rules.Legal.{Legal}
use Rattle.rv_audit.specs.declared.outcome.Audit.{Audit}
use Rattle.rv_audit.specs.Faults.{IsToldOf, KeepsRules}

-- an account is legal exactly if no rule is broken at any place
abbrev pub LegalByRules : Type 0
LegalByRules = (a : Account) → Legal a ↔ ((place : ℕ) → KeepsRules a place)

-- an account has one audit result
abbrev pub OneAudit : Type 0
OneAudit = (a : Account) (told other : Audit) → IsToldOf a told → IsToldOf a other → told ≡ other
