-- Verdicts on lines that an audit reads too.
use Rattle.std.specs.Prelude.{◌≡◌, ℕ, List}
use Rattle.rv_account.specs.Account.{Account}
use Rattle.rv_audit.specs.Faults.{IsToldOf}
use Rattle.rv_audit.specs.declared.outcome.Audit.{Audit}
use Rattle.rv_audit.specs.declared.outcome.Audit.TheVariants as tells
use Rattle.rv_verify.specs.follow.state_rules.Ruling.{IsOnNamed}
use Rattle.rv_book.specs.lines.Reading.{ReadsAccount}
use Rattle.rv_account.specs.state.resume.Laws.{HadRoom}
use Rattle.rv_account.specs.rules.Legal.{Legal}
use Rattle.rv_verify.specs.Noting.{IsLongestLegal}
use Rattle.rv_verify.specs.Verdicts.{IsVerdictOn, ReadsLong}
use Rattle.rv_replies.specs.declared.findings.verdict.AccountVerdict.{AccountVerdict}
use Rattle.rv_replies.specs.declared.findings.verdict.AccountVerdict.TheVariants as verdict

-- both say that the account is legal, or report the same fault; for an entry that names a closed place the
-- rule is P1, P2 or S1
abbrev pub SayTheSame : Audit → AccountVerdict → Type 0
SayTheSame tells.Legal verdict.Legal = Unit {0}
SayTheSame tells.Legal (verdict.Fault place rule) = ⊥
SayTheSame tells.Legal (verdict.NotOpen place e) = ⊥
SayTheSame tells.Legal (verdict.BadLine n) = ⊥
SayTheSame tells.Legal (verdict.BeyondLimits place) = ⊥
SayTheSame (tells.Fault place rule) verdict.Legal = ⊥
SayTheSame (tells.Fault place rule) (verdict.Fault other broken) = (place ≡ other) × (rule ≡ broken)
SayTheSame (tells.Fault place rule) (verdict.NotOpen other e) = (place ≡ other) × IsOnNamed rule
SayTheSame (tells.Fault place rule) (verdict.BadLine n) = ⊥
SayTheSame (tells.Fault place rule) (verdict.BeyondLimits other) = ⊥

-- on lines that an audit reads as an account, the verdict says what the audit says
abbrev pub VerdictsAgree : Type 0
VerdictsAgree = (lines : List (List ℕ)) (a : Account) (told : Audit) (said : AccountVerdict)
    → ReadsAccount lines a → IsToldOf a told → IsVerdictOn lines said → SayTheSame told said

-- in an account that an audit reads as legal, the state has had room after each entry
abbrev pub LegalHadRoom : Type 0
LegalHadRoom = (lines : List (List ℕ)) (a : Account) → ReadsAccount lines a → Legal a → HadRoom a

-- if lines are read as a legal account whose state has had room after each entry, a record of replies notes
-- exactly that account
abbrev pub LegalIsNoted : Type 0
LegalIsNoted = (lines : List (List ℕ)) (a noted : Account) → ReadsLong lines a → Legal a → HadRoom a
    → IsLongestLegal lines noted → noted ≡ a
