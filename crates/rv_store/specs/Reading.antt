-- What was read of the lines of a journal as those of an account.
use Rattle.std.specs.Prelude.{◌≡◌, ◌≢◌, ◌++◌, [], ℕ, Bool, true, false, List, Option}
use Rattle.rv_journal.specs.Device.{Disk, WhereTold}
use Rattle.rv_journal.specs.Opened.{Looks, file_lines}
use Rattle.rv_journal.specs.Text.{IsLines}
use Rattle.rv_book.specs.lines.Lines.{lines}
use Rattle.rv_machine.specs.Machines.{state_in}
use Rattle.rv_machine.specs.declared.machine.Machine.{Machine}
use Rattle.rv_replies.specs.declared.findings.verdict.AccountFinding.{AccountFinding}
use Rattle.rv_replies.specs.declared.findings.verdict.AccountVerdict.TheVariants as verdict
use Rattle.rv_account.specs.state.resume.Resuming.{CanResume}
use Rattle.rv_verify.specs.Ongoing.{HasReadPart, kept_bytes}
use Rattle.rv_verify.specs.Standing.{HoldsAccountOf}
use Rattle.rv_verify.specs.Verdicts.{IsVerdictOn, ReadsLong}
use Rattle.rv_account.specs.Account.{Account}
use Rattle.rv_replies.specs.declared.records.Records.{Records}
use Rattle.rv_verify.specs.declared.ongoing.OngoingAudit.{OngoingAudit}
use Rattle.rv_store.specs.Format.{HasNoFormat, IsJournalOf, IsVersionIn}
use Rattle.rv_store.specs.Resumed.{StandsFrom}
use Rattle.rv_store.specs.declared.reader.ReaderParts.{ReaderParts}
use Rattle.rv_store.specs.declared.reader.RecoveryFault.{RecoveryFault}
use Rattle.rv_store.specs.declared.reader.RecoveryFault.TheVariants as fault

-- an audit read these lines, handed what passed to the record, and keeps no part of a further one
pub record HasReadWhole (read : List (List ℕ)) (audit : OngoingAudit) (r : Records) : Type 0 where
  pub part : HasReadPart read audit r
  pub none_kept : kept_bytes audit ≡ []

-- of a text it read the lines of the account whose journal it is; of none, nothing
abbrev pub HasReadSo : Bool → List ℕ → OngoingAudit → Records → Type 0
HasReadSo false text audit r = (text ≡ []) × HasReadWhole [] audit r
HasReadSo true text audit r = (account : List ℕ) × IsJournalOf text account × HasReadWhole (lines account)
    audit r

-- so did the reader
abbrev pub HasReadJournal : List ℕ → ReaderParts → Type 0
HasReadJournal text reader = HasReadSo reader.begun text reader.audit reader.records

-- the first of these lines, or all of them, are no legal account: this verdict on them is true
pub record IsNoAccount (read : List (List ℕ)) (found : AccountFinding) : Type 0 where
  pub front : List (List ℕ)
  pub more : List (List ℕ)
  pub parts : read ≡ front ++ more
  pub told : IsVerdictOn front found.verdict
  pub illegal : found.verdict ≢ verdict.Legal

-- a journal whose first lines are these is refused for this reason
abbrev pub IsFaultOfFront : List ℕ → RecoveryFault → Type 0
IsFaultOfFront text (fault.OtherVersion version) = IsVersionIn text version × (version ≢ 1)
IsFaultOfFront text fault.NoJournal = HasNoFormat text
IsFaultOfFront text fault.NoLines = ⊥
IsFaultOfFront text (fault.OtherEpoch other) = ⊥
IsFaultOfFront text (fault.NoAccount found) =
    (account : List ℕ) × IsJournalOf text account × IsNoAccount (lines account) found
IsFaultOfFront text fault.TooFew = ⊥
IsFaultOfFront text fault.NoMemory = Unit {0}

-- The journal of an account of another epoch.
pub record IsAccountOfEpoch (text : List ℕ) (epoch : ℕ) : Type 0 where
  pub lines_in : List ℕ
  pub is : IsJournalOf text lines_in
  pub account : Account
  pub read : ReadsLong (lines lines_in) account
  pub epoch_is : account.epoch ≡ epoch

-- a journal that has these lines and no more, where this epoch's is asked for
abbrev pub IsFaultOfText : ℕ → List ℕ → RecoveryFault → Type 0
IsFaultOfText epoch text (fault.OtherEpoch other) = IsAccountOfEpoch text other × (other ≢ epoch)
IsFaultOfText epoch text (fault.OtherVersion version) = IsFaultOfFront text (fault.OtherVersion version)
IsFaultOfText epoch text fault.NoJournal = IsFaultOfFront text fault.NoJournal
IsFaultOfText epoch text fault.NoLines = text ≡ []
IsFaultOfText epoch text (fault.NoAccount found) = IsFaultOfFront text (fault.NoAccount found)
IsFaultOfText epoch text fault.TooFew = ⊥
IsFaultOfText epoch text fault.NoMemory = Unit {0}

-- A machine that goes on from the account of this epoch whose journal has this text.
pub record HoldsJournal (epoch : ℕ) (text : List ℕ) (machine : Machine) : Type 0 where
  pub account : List ℕ
  pub is : IsJournalOf text account
  pub holds : HoldsAccountOf (lines account) machine
  pub epoch_is : (state_in machine).epoch ≡ epoch

-- A file whose lines are no account's for this reason is as it was; what a machine is given for stands in it.
pub record IsLeftAsRefused {D : Type 0} (disk : Disk D) (epoch : ℕ) (from : Option Machine) (old new : D)
    (why : RecoveryFault) : Type 0 where
  pub looks : Looks disk old new
  pub fault : WhereTold disk old (StandsFrom from epoch (file_lines disk old)
      → IsFaultOfText epoch (file_lines disk old) why)

-- an audit read the lines of this text after those that it had read
abbrev pub ReadsWholeOn : OngoingAudit → Records → List ℕ → OngoingAudit → Records → Type 0
ReadsWholeOn audit r text later after = (read : List (List ℕ)) → HasReadWhole read audit r
    → HasReadWhole (read ++ lines text) later after

-- the lines of this text, after those that it had read, are refused
abbrev pub RefusesWholeOn : OngoingAudit → Records → List ℕ → RecoveryFault → Type 0
RefusesWholeOn audit r text fault.NoMemory = Unit {0}
RefusesWholeOn audit r text (fault.NoAccount found) = (read : List (List ℕ)) → HasReadWhole read audit r
    → IsNoAccount (read ++ lines text) found
RefusesWholeOn audit r text (fault.OtherVersion version) = ⊥
RefusesWholeOn audit r text fault.NoJournal = ⊥
RefusesWholeOn audit r text fault.NoLines = ⊥
RefusesWholeOn audit r text (fault.OtherEpoch other) = ⊥
RefusesWholeOn audit r text fault.TooFew = ⊥

-- the same of a reader, and of whole lines
abbrev pub ReadsTextOn : ReaderParts → List ℕ → ReaderParts → Type 0
ReadsTextOn old text new = (new.epoch ≡ old.epoch) × ((before : List ℕ) → IsLines before
    → HasReadJournal before old → HasReadJournal (before ++ text) new)

abbrev pub RefusesTextOn : ReaderParts → List ℕ → RecoveryFault → Type 0
RefusesTextOn old text why = (before : List ℕ) → IsLines before → HasReadJournal before old
    → IsFaultOfFront (before ++ text) why

-- what becomes of a journal that has no more lines than were read
abbrev pub MakesMachine : ReaderParts → Machine → Type 0
MakesMachine reader machine = CanResume (state_in machine) × ((state_in machine).epoch ≡ reader.epoch)
    × ((text : List ℕ) → IsLines text → HasReadJournal text reader → HoldsJournal reader.epoch text machine)

abbrev pub LacksAccount : ReaderParts → RecoveryFault → Type 0
LacksAccount reader why = (text : List ℕ) → IsLines text → HasReadJournal text reader
    → IsFaultOfText reader.epoch text why
