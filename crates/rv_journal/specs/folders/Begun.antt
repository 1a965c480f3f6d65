-- A journal that is begun for an epoch: under another name, until its first text is stored.
use Rattle.std.specs.Prelude.{◌≡◌, ◌⊎◌, ℕ, List, Some}
use Rattle.rv_journal.specs.Device.{Disk}
use Rattle.rv_journal.specs.Text.{before_zero}
use Rattle.rv_journal.specs.folders.Folder.{Directory, GivenFile, FileNames}
use Rattle.rv_journal.specs.declared.folders.folder.FileName.{FileName}
use Rattle.rv_journal.specs.declared.folders.folder.FileName.TheVariants.{Account, Unready}

-- The file with this number: since it was given its name, a crash has left a file of this text.
pub record HasTextSince {D : Type 0} (disk : Disk D) (first : List ℕ) (given : GivenFile)
    (file : D) : Type 0 where
  pub number : given.number ≡ disk.number file
  pub text : (left : List ℕ) → disk.left_since file given.since left → before_zero left ≡ first

-- the account of this epoch is in this file, which has had this text since it is so
abbrev pub IsAccountIn : {D : Type 0} → Disk D → List ℕ → ℕ → D → FileNames → Type 0
IsAccountIn disk text epoch file names = (given : GivenFile) × (names (Account epoch) ≡ Some given)
    × HasTextSince disk text given file

-- a name that isn't the new epoch's, nor that of a file which is being made
abbrev pub IsOtherName : ℕ → FileName → Type 0
IsOtherName epoch (Account other) = other ≡ epoch → ⊥
IsOtherName epoch Unready = ⊥

-- all other names stand for what they did
abbrev pub KeepsOthers : ℕ → FileNames → FileNames → Type 0
KeepsOthers epoch before names = (name : FileName) → IsOtherName epoch name → names name ≡ before name

-- What a crash leaves of these names while an epoch begins: no account of it that wasn't there, or one in a
-- file that has had all of its first text since.
pub record BeginsEpoch {D : Type 0} (disk : Disk D) (text : List ℕ) (epoch : ℕ) (before names : FileNames) :
    Type 0 where
  pub others : KeepsOthers epoch before names
  pub account : (names (Account epoch) ≡ before (Account epoch))
      ⊎ ((file : D) × IsAccountIn disk text epoch file names)

-- what a crash might have left before, or while the epoch began
abbrev pub LeavesBegun : {F D : Type 0} → Directory F → Disk D → List ℕ → ℕ → F → F → Type 0
LeavesBegun directory disk text epoch old new = (names : FileNames) → directory.left new names
    → directory.left old names ⊎ ((before : FileNames) × directory.may_leave old before
    × BeginsEpoch disk text epoch before names)
