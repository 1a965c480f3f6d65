-- A journal as contracts see it.
use Rattle.std.specs.Prelude.{◌≡◌, ◌++◌, ℕ, Bool, false, List, None, Option, Some, if◌then◌else◌, take}
use Rattle.rv_journal.specs.Device.{Disk, WhereTold}
use Rattle.rv_journal.specs.Filled.{TakesPieces}
use Rattle.rv_journal.specs.Text.{before_zero}
use Rattle.rv_journal.specs.declared.journal.Parts.{Parts}

-- its device, where its text ends there, and whether it takes nothing more
pub record JournalState (D : Type 0) : Type 0 where
  pub device : D
  pub end : ℕ
  pub failed : Bool

abbrev pub journal_state : {D : Type 0} → Parts D → JournalState D
journal_state parts = record { device = parts.file.device; end = parts.file.end; failed = parts.failed }

-- its text
abbrev pub journal_text : {D : Type 0} → Disk D → JournalState D → List ℕ
journal_text disk journal = take journal.end (disk.seen journal.device)

-- the same as a writer's contents, where its device tells what it holds
abbrev pub journal_contents : {D : Type 0} → Disk D → JournalState D → Option (List ℕ)
journal_contents disk journal = if disk.tells journal.device then Some (journal_text disk journal) else None

-- a crash leaves a file of its text
abbrev pub IsDurable : {D : Type 0} → Disk D → JournalState D → Type 0
IsDurable disk journal = (c : List ℕ) → disk.may_leave journal.device c
    → before_zero c ≡ journal_text disk journal

-- A piece was added, and is stored.
pub record Stores {D : Type 0} (disk : Disk D) (piece : List ℕ) (old new : JournalState D) : Type 0 where
  pub works : new.failed ≡ false
  pub text : WhereTold disk old.device (journal_text disk new ≡ journal_text disk old ++ piece)
  pub durable : WhereTold disk old.device (IsDurable disk new)

-- its text is the same
abbrev pub KeepsText : {D : Type 0} → Disk D → JournalState D → JournalState D → Type 0
KeepsText disk old new = WhereTold disk old.device (journal_text disk new ≡ journal_text disk old)

-- as long as nothing failed it can take a piece
abbrev pub IsLive : {D : Type 0} → Disk D → Parts D → Type 0
IsLive disk parts = parts.failed ≡ false → TakesPieces disk parts.file
