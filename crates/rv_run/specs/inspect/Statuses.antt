-- The exit status for what was found.
use Rattle.std.specs.Prelude.{◌≡◌, ◌↔◌, ◌⊎◌, IsTrue, true, Bool, ℕ, None, Option, Some, slice_get}
use Rattle.rv_account.specs.Account.{Account}
use Rattle.rv_audit.specs.declared.rule.Rule.{Rule}
use Rattle.rv_replies.specs.findings.Statuses.{status_by}
use Rattle.rv_replies.specs.declared.findings.Finding.TheVariants.{Kept, KeptUnseen}
use Rattle.rv_replies.specs.declared.findings.verdict.AccountFinding.{AccountFinding}
use Rattle.rv_replies.specs.Standing.{HasNoted, IsLineFinding}
use Rattle.rv_replies.specs.declared.records.Line.{Line}
use Rattle.rv_replies.specs.declared.records.Records.{Records}
use Rattle.rv_account.specs.rules.Legal.{Legal}

-- the account keeps the line
abbrev pub IsLineKept : Account → Line → Type 0
IsLineKept a line = IsLineFinding a line Kept ⊎ IsLineFinding a line KeptUnseen

-- the account keeps each line of the record
abbrev pub KeepsEach : Records → Account → Type 0
KeepsEach r a = (index : ℕ) (line : Line) → slice_get r.lines.items index ≡ Some line → IsLineKept a line

-- whether the legal account of this epoch, which the record has noted, keeps each line
abbrev pub TellsKept : Records → ℕ → Bool → Type 0
TellsKept r epoch kept = (a : Account) → Legal a → a.epoch ≡ epoch → HasNoted r a
    → (IsTrue kept ↔ KeepsEach r a)

-- whether all is kept; with no record, or beside an account that says no epoch, it counts as kept
abbrev pub IsKeptBeside : Option Records → Option ℕ → Bool → Type 0
IsKeptBeside None epoch kept = kept ≡ true
IsKeptBeside (Some r) None kept = kept ≡ true
IsKeptBeside (Some r) (Some epoch) kept = TellsKept r epoch kept

-- this is the status for what was found of an account and of a record beside it
abbrev pub TellsFound : AccountFinding → Option Rule → Option Records → ℕ → Type 0
TellsFound found rule records status =
    (kept : Bool) × (status ≡ status_by found.verdict rule found.torn kept)
    × IsKeptBeside records found.epoch kept
