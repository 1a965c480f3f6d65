-- What `rv verify` says of the bytes of an input and of a record beside it.
use Rattle.std.specs.Prelude.{◌≡◌, ◌≢◌, ◌⊎◌, ◌-◌, ◌++◌, true, false, Bool, ℕ, List, None, Option, Some}
use Rattle.std.specs.Prelude.{IsSome, length}
use Rattle.rv_audit.specs.declared.rule.Rule.{Rule}
use Rattle.rv_replies.specs.declared.findings.verdict.AccountFinding.{AccountFinding}
use Rattle.rv_replies.specs.declared.findings.verdict.AccountVerdict.{AccountVerdict}
use Rattle.rv_replies.specs.declared.findings.verdict.AccountVerdict.TheVariants as verdict
use Rattle.rv_frame.specs.declared.sink.Sink.{Sink}
use Rattle.rv_run.specs.inspect.Report.{BeginsReport, IsReport, StopsTaking, TookLines}
use Rattle.rv_run.specs.inspect.Statuses.{TellsFound}
use Rattle.rv_book.specs.lines.Lines.{lines}
use Rattle.rv_replies.specs.declared.records.Records.{Records}
use Rattle.rv_run.specs.declared.fault.RunFault.{RunFault}
use Rattle.rv_verify.specs.Ends.{AreWholeLines}
use Rattle.rv_verify.specs.Naming.{BeginAlike, IsRuleAt}
use Rattle.rv_verify.specs.Ongoing.{AreLegalUpTo, IsFoundOfBytes, IsFoundOfLines, IsFoundOfWholeLines}
use Rattle.rv_verify.specs.Verdicts.{TellsNotOpen}
use Rattle.rv_app.specs.declared.verify.Reread.{Reread}
use Rattle.rv_app.specs.declared.verify.Reread.TheVariants.{Told, Unopened}

-- for an account that grows: the lines up to the first one that is bad, or whose entry isn't followed; the
-- record has noted what passed of them
pub record EndsAtFault (bytes : List ℕ) (r : Records) (found : AccountFinding) : Type 0 where
  pub front : List ℕ
  pub rest : List ℕ
  pub parts : bytes ≡ front ++ rest
  pub are_whole : AreWholeLines front
  pub is : IsFoundOfLines (lines front) r found
  pub first : AreLegalUpTo (lines front) 0 (length (lines front) - 1)
  pub broken : found.verdict ≢ verdict.Legal
  pub whole : found.torn ≡ false

-- what is found of an input's bytes: of those of a growing file, of a journal's whole lines, or of all
abbrev pub IsFoundIn : Bool → Bool → List ℕ → Records → AccountFinding → Type 0
IsFoundIn true journal bytes r found = EndsAtFault bytes r found
IsFoundIn false true bytes r found = IsFoundOfWholeLines bytes r found
IsFoundIn false false bytes r found = IsFoundOfBytes bytes r found

-- the record, if one is named
abbrev pub beside : {A : Type 0} → Option A → Records → Option Records
beside None r = None
beside (Some name) r = Some r

-- the verdict names a closed place, where the entries before it say which rule is broken
abbrev pub IsClosed : AccountVerdict → Type 0
IsClosed (verdict.NotOpen place entry) = Unit {0}
IsClosed verdict.Legal = ⊥
IsClosed (verdict.Fault place rule) = ⊥
IsClosed (verdict.BadLine number) = ⊥
IsClosed (verdict.BeyondLimits place) = ⊥

-- the rule at a closed place, if the bytes that are read once more begin like those of the verdict
abbrev pub IsRuleBy : AccountVerdict → Option (List ℕ) → Option Rule → Type 0
IsRuleBy (verdict.NotOpen place entry) again rule = (all : List (List ℕ)) (bytes : List ℕ)
    → again ≡ Some bytes → TellsNotOpen all place entry → BeginAlike all (lines bytes) place
    → IsRuleAt all place rule
IsRuleBy verdict.Legal again rule = rule ≡ None
IsRuleBy (verdict.Fault place named) again rule = rule ≡ None
IsRuleBy (verdict.BadLine number) again rule = rule ≡ None
IsRuleBy (verdict.BeyondLimits place) again rule = rule ≡ None

-- or none if nothing may be read once more
abbrev pub IsRuleOf : AccountVerdict → Option (Option (List ℕ)) → Option Rule → Type 0
IsRuleOf found None rule = rule ≡ None
IsRuleOf found (Some again) rule = IsRuleBy found again rule

-- what a second reading finds: it can fail only at a closed place, and only if there is something to read
abbrev pub IsReread : AccountVerdict → Option (Option (List ℕ)) → Reread → Type 0
IsReread found again (Told rule) = IsRuleOf found again rule
IsReread found again Unopened = IsClosed found × IsSome again

module _ {W : Type 0} (contents : W → Option (List ℕ)) (IsFound : AccountFinding → Type 0)
    (again : Option (Option (List ℕ))) (r : Option Records) (old new : Sink W) where
  -- the sink took exactly the report on what is found, with the rule at a closed place, if that is known, and
  -- this is its status
  pub record ReportsFound (status : ℕ) : Type 0 where
    pub found : AccountFinding
    pub is : IsFound found
    pub rule : Option Rule
    pub rule_is : IsRuleOf found.verdict again rule
    pub tells : TellsFound found rule r status
    pub took : TookLines contents (IsReport found rule r) old new

  -- the status is 1 and it took nothing: at a closed place the bytes can't be opened once more
  pub record CannotReread (status : ℕ) : Type 0 where
    pub found : AccountFinding
    pub is : IsFound found
    pub unopened : IsReread found.verdict again Unopened
    pub status_is : status ≡ 1
    pub silent : new ≡ old

  abbrev pub Reports : ℕ → Type 0
  Reports status = ReportsFound status ⊎ CannotReread status

  -- the report on what is found stopped for this fault
  pub record StopsReportAt (fault : RunFault) : Type 0 where
    pub found : AccountFinding
    pub is : IsFound found
    pub rule : Option Rule
    pub rule_is : IsRuleOf found.verdict again rule
    pub stops : StopsTaking contents (IsReport found rule r) (BeginsReport found rule r) old new fault

  -- or nothing went out
  abbrev pub StopsReporting : RunFault → Type 0
  StopsReporting fault = (new ≡ old) ⊎ StopsReportAt fault
