-- What a status of 0 says of the bytes of an account and of a record beside it.
use Rattle.std.specs.Prelude.{ℕ, ◌⊎◌, List, Option, Some}
use Rattle.std.specs.List.{All, AllZip}
use Rattle.rv_account.specs.Account.{Account}
use Rattle.rv_audit.specs.declared.rule.Rule.{Rule}
use Rattle.rv_replies.specs.findings.Findings.{IsFinding}
use Rattle.rv_replies.specs.declared.findings.Finding.TheVariants.{Kept, KeptUnseen}
use Rattle.rv_replies.specs.declared.findings.Told.{Told}
use Rattle.rv_replies.specs.declared.findings.verdict.AccountFinding.{AccountFinding}
use Rattle.rv_run.specs.inspect.Statuses.{TellsFound}
use Rattle.rv_book.specs.lines.Lines.{lines}
use Rattle.rv_replies.specs.Lines.{ReadsTold}
use Rattle.rv_replies.specs.Standing.{IsRecordLine}
use Rattle.rv_replies.specs.declared.records.Records.{Records}
use Rattle.rv_verify.specs.Ends.{IsToldOfBytes, IsWholeWith}
use Rattle.rv_verify.specs.Noting.{IsNotedOfBytes}
use Rattle.rv_verify.specs.Verdicts.{TellsLegalAccount}

-- the line is the record of a reply, and the account gives it
abbrev pub KeepsRecordLine : Account → List ℕ → Type 0
KeepsRecordLine a text = (told : Told) × ReadsTold text told
    × (IsFinding a told Kept ⊎ IsFinding a told KeptUnseen)

-- the lines are read as a legal account, whose state has had room after each entry, and it keeps each line of
-- the record
pub record KeepsRecord (replies lines : List (List ℕ)) : Type 0 where
  pub legal : TellsLegalAccount lines
  pub kept : All (KeepsRecordLine legal.account) replies

-- if the status is 0, the account's end isn't torn, and all this is so
abbrev pub ZeroKeepsAll : Type 0
ZeroKeepsAll = (account replies : List ℕ) (found : AccountFinding) (rule : Option Rule) (r : Records)
    → IsToldOfBytes account found → IsNotedOfBytes account found r
    → AllZip IsRecordLine (lines replies) r.lines.items → TellsFound found rule (Some r) 0
    → IsWholeWith account (KeepsRecord (lines replies))
