-- How far an audit has got with an account that grows.
use Rattle.std.specs.Prelude.{◌≡◌, ◌≢◌, ◌↔◌, ◌<◌, ◌≤◌, ◌-◌, ◌++◌, [], ℕ, IsTrue, List, Option, Some, length}
use Rattle.std.specs.Prelude.{take}
use Rattle.std.specs.List.{All}
use Rattle.rv_book.specs.lines.Lines.{lines}
use Rattle.rv_replies.specs.declared.records.Records.{Records}
use Rattle.rv_verify.specs.Ends.{AreWholeLines, IsToldOfBytes}
use Rattle.rv_verify.specs.Noting.{HasNotedOf, IsNotedOfBytes}
use Rattle.rv_verify.specs.Stages.{CanTakeLine, HasFault, HasReadLines}
use Rattle.rv_verify.specs.Verdicts.{IsVerdictOn, TellsLegalAccount}
use Rattle.rv_verify.specs.declared.ongoing.OngoingAudit.{OngoingAudit}
use Rattle.rv_verify.specs.declared.ongoing.Until.{Until}
use Rattle.rv_verify.specs.declared.ongoing.Until.TheVariants as far
use Rattle.rv_verify.specs.declared.stage.Stage.{Stage}
use Rattle.rv_verify.specs.declared.ongoing.Pause.{Pause}
use Rattle.rv_verify.specs.declared.ongoing.Pause.TheVariants as pause
use Rattle.rv_replies.specs.declared.findings.verdict.AccountFinding.{AccountFinding}

-- it can read on
abbrev pub CanGoOn : OngoingAudit → Type 0
CanGoOn o = CanTakeLine o.stage

-- the bytes that it keeps: a last piece, which lacks its LF
abbrev pub kept_bytes : OngoingAudit → List ℕ
kept_bytes o = o.piece.items

-- it read these lines, and keeps bytes that have no LF (10)
pub record HasReadPart (lines : List (List ℕ)) (o : OngoingAudit) (r : Records) : Type 0 where
  pub read : HasReadLines lines o.stage r
  pub no_lf : All (λ byte. byte ≢ 10) o.piece.items

-- after some lines, whole lines of the bytes were read, and so many bytes are left
pub record HasRun (before : List (List ℕ)) (bytes : List ℕ) (s : Stage) (r : Records) (rest : List ℕ) : Type 0
  where
    pub more : List ℕ
    pub parts : bytes ≡ more ++ rest
    pub are_whole : AreWholeLines more
    pub read : HasReadLines (before ++ lines more) s r

-- the first n lines, for each n after the one count and up to the other, are legal accounts whose states have
-- had room
abbrev pub AreLegalUpTo : List (List ℕ) → ℕ → ℕ → Type 0
AreLegalUpTo lines from to = (n : ℕ) → from < n → n ≤ to → TellsLegalAccount (take n lines)

-- if a fault ends the reading, there was none before
abbrev pub HadNoFault : Until → List (List ℕ) → ℕ → ℕ → Type 0
HadNoFault far.End lines from to = Unit {0}
HadNoFault far.Fault lines from to = AreLegalUpTo lines from to

-- how many of these lines had no fault: all of them at the end, else all but the last
abbrev pub good_lines : Pause → List (List ℕ) → ℕ
good_lines pause.End lines = length lines
good_lines pause.Fault lines = length lines - 1

-- these bytes were left: at the end the audit keeps them; at a fault it keeps none
abbrev pub HasLeft : OngoingAudit → List ℕ → Option (List ℕ) → Pause → Type 0
HasLeft o rest left pause.End = (left ≡ Some []) × (o.piece.items ≡ rest)
HasLeft o rest left pause.Fault = (left ≡ Some rest) × (o.piece.items ≡ []) × HasFault o.stage

-- it read on, and paused for this reason
pub record HasGoneOn (until : Until) (before : List (List ℕ)) (bytes : List ℕ) (o : OngoingAudit)
    (r : Records)
    (left : Option (List ℕ)) (why : Pause) : Type 0 where
  pub rest : List ℕ
  pub run : HasRun before bytes o.stage r rest
  pub has_left : HasLeft o rest left why
  pub no_lf : All (λ byte. byte ≢ 10) o.piece.items
  pub no_fault : HadNoFault until (before ++ lines run.more) (length before)
      (good_lines why (before ++ lines run.more))

-- it read on up to the first fault, if there was one
abbrev pub HasReadOn : List (List ℕ) → List ℕ → OngoingAudit → Records → Option (List ℕ) → Pause → Type 0
HasReadOn before bytes o r left why = HasGoneOn far.Fault before bytes o r left why

-- the finding is true of the bytes, and the record has noted what passed of them
abbrev pub IsFoundOfBytes : List ℕ → Records → AccountFinding → Type 0
IsFoundOfBytes bytes r found = IsToldOfBytes bytes found × IsNotedOfBytes bytes found r

-- the same for whole lines
pub record IsFoundOfLines (lines : List (List ℕ)) (r : Records) (found : AccountFinding) : Type 0 where
  pub verdict : IsVerdictOn lines found.verdict
  pub noted : HasNotedOf lines found.epoch r

-- What is found of bytes of which whole lines alone count: what comes after them is a torn end.
pub record IsFoundOfWholeLines (bytes : List ℕ) (r : Records) (found : AccountFinding) : Type 0 where
  pub whole : List ℕ
  pub rest : List ℕ
  pub parts : bytes ≡ whole ++ rest
  pub are_whole : AreWholeLines whole
  pub no_lf : All (λ byte. byte ≢ 10) rest
  pub is : IsFoundOfLines (lines whole) r found
  pub torn : IsTrue found.torn ↔ (rest ≢ [])
