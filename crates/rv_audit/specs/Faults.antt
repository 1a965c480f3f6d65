-- Which fault of an account is its first, and what the result of an audit says of the account.
use Rattle.std.specs.Prelude.{◌≡◌, ◌<◌, ℕ, Some, slice_get}
use Rattle.rv_account.specs.declared.entry.Entry.{Entry}
use Rattle.rv_account.specs.Account.{Account}
use Rattle.rv_account.specs.rules.Legal.{Legal, before}
use Rattle.rv_audit.specs.declared.rule.Rule.{Rule}
use Rattle.rv_audit.specs.AccountRules.{BreaksBehind, rank_of}
use Rattle.rv_audit.specs.declared.outcome.Audit.{Audit}
use Rattle.rv_audit.specs.declared.outcome.Audit.TheVariants as tells

-- the entry at the place breaks the rule, after those before it
pub record Breaks (rule : Rule) (a : Account) (place : ℕ) : Type 0 where
  pub entry : Entry
  pub there : slice_get a.entries place ≡ Some entry
  pub breaks : BreaksBehind rule (before a place) entry

-- no rule is broken at the place
abbrev pub KeepsRules : Account → ℕ → Type 0
KeepsRules a place = (rule : Rule) → ¬ Breaks rule a place

-- the rule is broken at the place; no rule is at an earlier place, and none before it in the order is at this
-- one
pub record FirstFault (a : Account) (place : ℕ) (rule : Rule) : Type 0 where
  pub broken : Breaks rule a place
  pub kept_before : (r : ℕ) → r < place → KeepsRules a r
  pub first : (other : Rule) → rank_of other < rank_of rule → ¬ Breaks other a place

-- the audit's result is true of the account: it is legal, or this is its first fault
abbrev pub IsToldOf : Account → Audit → Type 0
IsToldOf a tells.Legal = Legal a
IsToldOf a (tells.Fault place rule) = FirstFault a place rule
