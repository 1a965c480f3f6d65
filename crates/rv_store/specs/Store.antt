-- The present account of a store, as it is opened.
use Rattle.std.specs.Prelude.{◌≡◌, ℕ, Option, Some, true}
use Rattle.rv_journal.specs.folders.Folder.{Directory, GivenFile}
use Rattle.rv_journal.specs.folders.Present.{IsPresent}
use Rattle.rv_journal.specs.declared.folders.folder.FileName.TheVariants.{Account}
use Rattle.rv_journal.specs.Device.{Disk}
use Rattle.rv_journal.specs.Faults.{IfRefused, open_failed}
use Rattle.rv_journal.specs.Journal.{IsDurable, journal_text}
use Rattle.rv_journal.specs.Opened.{HasLines, IsLeftUnfilled, file_lines}
use Rattle.rv_journal.specs.declared.fault.OpenFault.{OpenFault}
use Rattle.rv_journal.specs.declared.fault.OpenFault.TheVariants.{NotFilled}
use Rattle.rv_machine.specs.Machines.{state_in}
use Rattle.rv_machine.specs.declared.machine.Machine.{Machine}
use Rattle.rv_store.specs.Lasting.{journal_of}
use Rattle.rv_store.specs.Reading.{HoldsJournal, IsLeftAsRefused}
use Rattle.rv_store.specs.Resumed.{StandsFrom}
use Rattle.rv_store.specs.declared.opening.StoredAccount.{StoredAccount}
use Rattle.rv_store.specs.declared.reader.RecoveryFault.{RecoveryFault}

-- The file of the present account of this epoch.
pub record IsPresentFile {F D : Type 0} (directory : Directory F) (disk : Disk D) (folder : F) (epoch : ℕ)
    (file : D) : Type 0 where
  pub present : IsPresent (directory.seen folder) (Some epoch)
  pub number : (given : GivenFile) → directory.seen folder (Account epoch) ≡ Some given
      → given.number ≡ disk.number file

-- Its journal has that file's lines, stored, and the machine goes on from them, if they go on from the one
-- that was given.
pub record OpensPresent {F D : Type 0} (directory : Directory F) (disk : Disk D) (folder : F)
    (from : Option Machine) (stored : StoredAccount D) : Type 0 where
  pub file : IsPresentFile directory disk folder (state_in stored.machine).epoch (journal_of
      stored.journal).device
  pub holds : StandsFrom from (state_in stored.machine).epoch (journal_text disk (journal_of stored.journal))
      → HoldsJournal (state_in stored.machine).epoch (journal_text disk (journal_of stored.journal))
      stored.machine
  pub durable : IsDurable disk (journal_of stored.journal)

-- It was not opened, for this reason: it has the lines that it had, and was left as it was where they were
-- refused or no zero stands in it.
pub record FailsPresent {F D : Type 0} (directory : Directory F) (disk : Disk D) (folder : F) (epoch : ℕ)
    (from : Option Machine) (fault : OpenFault RecoveryFault) : Type 0 where
  pub old : D
  pub new : D
  pub file : IsPresentFile directory disk folder epoch old
  pub lines : HasLines (file_lines disk old) (disk.seen new)
  pub not_filled : fault ≡ NotFilled → IsLeftUnfilled disk old new
  pub refused : IfRefused fault (IsLeftAsRefused disk epoch from old new)
  pub cause : fault ≡ open_failed → disk.failed new ≡ true
