-- What a start makes of a store.
use Rattle.std.specs.Prelude.{◌≡◌, ◌≤◌, ℕ}
use Rattle.rv_journal.specs.folders.Begun.{IsAccountIn, KeepsOthers}
use Rattle.rv_journal.specs.folders.Folder.{Directory, FileNames, WhereNamed}
use Rattle.rv_journal.specs.folders.Present.{IsPresent}
use Rattle.rv_journal.specs.Device.{Disk}
use Rattle.rv_journal.specs.Journal.{IsDurable, journal_text}
use Rattle.rv_machine.specs.Machines.{state_in}
use Rattle.rv_machine.specs.declared.machine.Machine.{Machine}
use Rattle.rv_account.specs.state.State.{opening}
use Rattle.rv_text.specs.Members.{max_identifier}
use Rattle.rv_store.specs.Epochs.{IsChoice}
use Rattle.rv_store.specs.Format.{first_text}
use Rattle.rv_store.specs.Lasting.{journal_of}
use Rattle.rv_store.specs.Reading.{HoldsJournal}
use Rattle.rv_store.specs.Resumed.{StandsFrom}
use Rattle.rv_store.specs.Store.{OpensPresent}
use Rattle.rv_store.specs.declared.opening.StoredAccount.{StoredAccount}
use Rattle.rv_store.specs.declared.wish.EpochChoice.{EpochChoice}
use Rattle.rv_store.specs.declared.wish.EpochChoice.TheVariants.{Begins, GoesOn}
use Rattle.rv_store.specs.declared.wish.EpochWish.{EpochWish}
use Rattle.std.specs.Prelude.{None, Option}

-- All epochs that a start allows are identifiers.
pub record AreEpochs (wish : EpochWish) : Type 0 where
  pub least : 1 ≤ wish.least
  pub most : wish.most ≤ max_identifier

-- It was chosen by the epoch that the store had.
pub record IsChosen {F : Type 0} (directory : Directory F) (folder : F) (wish : EpochWish) (now : ℕ)
    (choice : EpochChoice) : Type 0 where
  pub present : Option ℕ
  pub is : WhereNamed directory folder (IsPresent (directory.seen folder) present)
  pub chosen : IsChoice wish present now choice

-- An account of this epoch was begun at this moment, in a file that has had its first line since it had its
-- name, which is stored. All others have theirs.
pub record BeginsIn {F D : Type 0} (directory : Directory F) (disk : Disk D) (old new : F) (epoch opened : ℕ)
    (stored : StoredAccount D) : Type 0 where
  pub state : state_in stored.machine ≡ opening epoch opened
  pub text : journal_text disk (journal_of stored.journal) ≡ first_text epoch opened
  pub account : (names : FileNames) → directory.may_leave new names
      → IsAccountIn disk (first_text epoch opened) epoch (journal_of stored.journal).device names
  pub others : (names : FileNames) → directory.may_leave new names
      → KeepsOthers epoch (directory.seen old) names

-- the present account was opened, or a new one begun
abbrev pub EntersBy : {F D : Type 0} → Directory F → Disk D → F → F → ℕ → Option Machine → EpochChoice
    → StoredAccount D → Type 0
EntersBy directory disk old new opened from (GoesOn epoch) stored =
    OpensPresent directory disk old from stored × ((state_in stored.machine).epoch ≡ epoch)
EntersBy directory disk old new opened from (Begins epoch) stored =
    BeginsIn directory disk old new epoch opened stored

-- The machine goes on from what its journal has, if that goes on from the one that was given, and all of
-- that is stored.
pub record IsStored {D : Type 0} (disk : Disk D) (from : Option Machine) (stored : StoredAccount D) :
    Type 0 where
  pub holds : StandsFrom from (state_in stored.machine).epoch (journal_text disk (journal_of stored.journal))
      → HoldsJournal (state_in stored.machine).epoch (journal_text disk (journal_of stored.journal))
      stored.machine
  pub durable : IsDurable disk (journal_of stored.journal)

-- what a machine is given for, where the present epoch goes on: a new one goes on from nothing
abbrev pub given_where : EpochChoice → Option Machine → Option Machine
given_where (GoesOn epoch) from = from
given_where (Begins epoch) from = None
