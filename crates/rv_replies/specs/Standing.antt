-- A record of replies: what its lines are, and when what is known of them is what an account says.
use Rattle.std.specs.Prelude.{◌≡◌, ◌∷◌, ◌++◌, [], ℕ, List, IsSome, Some, slice_get}
use Rattle.rv_account.specs.Account.{Account}
use Rattle.rv_replies.specs.declared.fates.Fates.{Fates}
use Rattle.rv_replies.specs.declared.records.Line.{Line}
use Rattle.rv_replies.specs.declared.records.Line.TheVariants as line
use Rattle.rv_replies.specs.declared.records.Records.{Records}
use Rattle.rv_replies.specs.declared.findings.Told.{Told}
use Rattle.rv_replies.specs.declared.findings.Finding.{Finding}
use Rattle.rv_replies.specs.declared.findings.Finding.TheVariants.{NoRecord}
use Rattle.rv_replies.specs.Known.{IsAbout, fate_in}
use Rattle.rv_replies.specs.Firsts.{KnowsFirsts}
use Rattle.rv_replies.specs.Lines.{ReadsTold}
use Rattle.rv_replies.specs.findings.Findings.{IsFinding}

-- the text is the record of this reply, or of none
abbrev pub IsRecordLine : List ℕ → Line → Type 0
IsRecordLine text (line.Told told) = ReadsTold text told
IsRecordLine text (line.Flawed flaw) = (told : Told) → ReadsTold text told → ⊥

-- the text is read, and its line comes after the others
pub record AddsLine (old new : Records) (text : List ℕ) : Type 0 where
  pub line : Line
  pub is : IsRecordLine text line
  pub lines : new.lines.items ≡ old.lines.items ++ line ∷ []

-- the finding on a line
abbrev pub IsLineFinding : Account → Line → Finding → Type 0
IsLineFinding a (line.Told told) finding = IsFinding a told finding
IsLineFinding a (line.Flawed flaw) finding = finding ≡ NoRecord

-- the key of each reply is known
abbrev pub KnowsEach : List Line → Fates → Type 0
KnowsEach lines fates = (i : ℕ) (told : Told) → slice_get lines i ≡ Some (line.Told told)
    → IsSome (fate_in fates told.key)

-- for each reply it is known what became of its request in the account, and which line is that request's
-- first
pub record HasNoted (r : Records) (a : Account) : Type 0 where
  pub about : IsAbout r.fates a
  pub known : KnowsEach r.lines.items r.fates
  pub firsts : KnowsFirsts r.lines.items r.firsts

-- no key is known
abbrev pub AsksNothing : Records → Type 0
AsksNothing r = r.fates.fates.entries ≡ []
