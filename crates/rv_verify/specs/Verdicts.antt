-- The verdicts on the lines of an account of any length.
--
-- An account is followed by its state alone, which must have room. So there is a verdict for an account that
-- breaks no rule, but whose state has no room at some place, and one for an entry that names a place where
-- nothing is open, which says only that it breaks one of three rules.
use Rattle.std.specs.Prelude.{◌≡◌, ◌<◌, ◌+◌, ℕ, List, Some, length, slice_get}
use Rattle.rv_text.specs.Members.{max_identifier}
use Rattle.rv_account.specs.Account.{Account}
use Rattle.rv_account.specs.declared.entry.Entry.{Entry}
use Rattle.rv_account.specs.rules.Legal.{Legal, before}
use Rattle.rv_account.specs.state.After.{state_of}
use Rattle.rv_account.specs.state.resume.Laws.{HadRoom}
use Rattle.rv_account.specs.state.resume.Resuming.{StaysInRoom}
use Rattle.rv_audit.specs.Faults.{IsToldOf}
use Rattle.rv_audit.specs.declared.outcome.Audit.{Audit}
use Rattle.rv_audit.specs.declared.outcome.Audit.TheVariants as tells
use Rattle.rv_audit.specs.declared.rule.Rule.{Rule}
use Rattle.rv_verify.specs.follow.state_rules.Ruling.{IsOnNamed, NamesClosed}
use Rattle.rv_book.specs.lines.Reading.{FirstBadLineUnder, LineLimits, ReadsAccountUnder, ReadsEntryUpTo}
use Rattle.rv_replies.specs.declared.findings.verdict.AccountVerdict.{AccountVerdict}
use Rattle.rv_replies.specs.declared.findings.verdict.AccountVerdict.TheVariants as verdict

-- places up to 2^53 - 1, and as many entries
abbrev pub long_limits : LineLimits
long_limits = record { greatest_place = max_identifier; most_entries = max_identifier }

-- the line is read as the entry
abbrev pub ReadsLongEntry : List ℕ → Entry → Type 0
ReadsLongEntry = ReadsEntryUpTo max_identifier

-- the lines are read as the account
abbrev pub ReadsLong : List (List ℕ) → Account → Type 0
ReadsLong = ReadsAccountUnder long_limits

-- the line of this number is the first bad one
abbrev pub FirstBadLong : List (List ℕ) → ℕ → Type 0
FirstBadLong = FirstBadLineUnder long_limits

-- any audit of the account reports a fault at the place, of such a rule
abbrev pub AuditTells : Account → ℕ → (Rule → Type 0) → Type 0
AuditTells a place Of = (told : Audit) → IsToldOf a told → (rule : Rule) × (told ≡ tells.Fault place rule)
    × Of rule

-- the lines are read as a legal account, whose state has had room after each entry
pub record TellsLegalAccount (lines : List (List ℕ)) : Type 0 where
  pub account : Account
  pub read : ReadsLong lines account
  pub legal : Legal account
  pub had_room : HadRoom account

-- the lines are read as an account; it is legal up to the place, and its state had room; and an audit of it
-- reports a fault at the place, of such a rule
pub record TellsFaultOf (Of : Rule → Type 0) (lines : List (List ℕ)) (place : ℕ) : Type 0 where
  pub account : Account
  pub read : ReadsLong lines account
  pub legal_before : Legal (before account place)
  pub had_room : HadRoom (before account place)
  pub illegal : ¬ Legal account
  pub told : AuditTells account place Of

abbrev pub TellsFaultAt : List (List ℕ) → ℕ → Rule → Type 0
TellsFaultAt lines place rule = TellsFaultOf (λ other. other ≡ rule) lines place

-- the same for this entry at the place. As far as a state can tell, it keeps all rules before P1, but it
-- names a place where nothing is open: the rule is P1, P2 or S1
pub record TellsNotOpen (lines : List (List ℕ)) (place : ℕ) (e : Entry) : Type 0 where
  pub fault : TellsFaultOf IsOnNamed lines place
  pub there : slice_get fault.account.entries place ≡ Some e
  pub closed : NamesClosed (state_of (before fault.account place)) e

-- the lines are read as an account that is legal up to the place and with the entry there, and whose state
-- had room before it, but has none after it
pub record TellsBeyond (lines : List (List ℕ)) (place : ℕ) : Type 0 where
  pub account : Account
  pub read : ReadsLong lines account
  pub there : place < length account.entries
  pub legal : Legal (before account (place + 1))
  pub had_room : HadRoom (before account place)
  pub beyond : ¬ StaysInRoom (state_of (before account (place + 1)))

-- the verdict is true of the lines
abbrev pub IsVerdictOn : List (List ℕ) → AccountVerdict → Type 0
IsVerdictOn lines verdict.Legal = TellsLegalAccount lines
IsVerdictOn lines (verdict.Fault place rule) = TellsFaultAt lines place rule
IsVerdictOn lines (verdict.NotOpen place e) = TellsNotOpen lines place e
IsVerdictOn lines (verdict.BadLine n) = FirstBadLong lines n
IsVerdictOn lines (verdict.BeyondLimits place) = TellsBeyond lines place
