-- A folder as contracts see it: which file each name stands for, now and after a crash.
use Rattle.std.specs.Prelude.{◌≡◌, ◌⊎◌, ◌==◌, ℕ, Bool, true, false, if◌then◌else◌, IsErrOf, IsTrue, Option}
use Rattle.std.specs.Prelude.{None, Some, Result}
use Rattle.rv_journal.specs.Device.{Disk}
use Rattle.rv_journal.specs.declared.device.DeviceFault.{DeviceFault}
use Rattle.rv_journal.specs.declared.device.DeviceFault.TheVariants.{Failed}
use Rattle.rv_journal.specs.declared.folders.folder.FileName.{FileName}
use Rattle.rv_journal.specs.declared.folders.folder.FileName.TheVariants.{Account, Unready}

-- A file that was given a name: its number, and its moment then.
pub record GivenFile : Type 0 where
  pub number : ℕ
  pub since : ℕ

-- a file, if it is given a name now
abbrev pub given_now : {D : Type 0} → Disk D → D → GivenFile
given_now disk file = record { number = disk.number file; since = disk.moment file }

-- for each name, the file that it stands for
abbrev pub FileNames : Type 0
FileNames = FileName → Option GivenFile

abbrev pub is_same_name : FileName → FileName → Bool
is_same_name (Account a) (Account b) = a == b
is_same_name (Account a) Unready = false
is_same_name Unready (Account b) = false
is_same_name Unready Unready = true

abbrev pub SameNames : FileNames → FileNames → Type 0
SameNames names others = (name : FileName) → names name ≡ others name

-- this name stands for this, each other one for what it did
abbrev pub given : FileName → Option GivenFile → FileNames → FileNames
given name file names other = if is_same_name other name then file else names other

-- the first one, and else the second
abbrev pub or_else : Option GivenFile → Option GivenFile → Option GivenFile
or_else (Some file) other = Some file
or_else None other = other

-- a name that stood for none stands for this file
abbrev pub name_made : FileName → GivenFile → FileNames → FileNames
name_made name file names other =
    if is_same_name other name then or_else (names other) (Some file) else names other

-- the second name stands for this file, the first one for none
abbrev pub renamed : FileName → FileName → GivenFile → FileNames → FileNames
renamed from to file names = given to (Some file) (given from None names)

-- each name stands for what it does here or there
abbrev pub Mixes : FileNames → FileNames → FileNames → Type 0
Mixes old new names = (name : FileName) → (names name ≡ old name) ⊎ (names name ≡ new name)

-- What a folder tells of itself, as functions of it.
pub record Directory (F : Type 0) : Type 1 where
  -- whether it tells what its names stand for: a folder of the system does not
  pub tells : F → Bool
  -- what they stand for
  pub seen : F → FileNames
  -- what a crash now may leave
  pub may_leave : F → FileNames → Type 0
  -- what a crash might have left since it was opened, during a call or between two
  pub left : F → FileNames → Type 0
  -- whether it has failed
  pub failed : F → Bool

-- where the folder tells what its names stand for
abbrev pub WhereNamed : {F : Type 0} → Directory F → F → Type 0 → Type 0
WhereNamed directory folder P = IsTrue (directory.tells folder) → P

-- a crash might have left what it might have left before, or what it may leave now
abbrev pub GoesOnIn : {F : Type 0} → Directory F → F → F → Type 0
GoesOnIn directory old new = (names : FileNames) → directory.left new names
    → directory.left old names ⊎ directory.may_leave new names

-- What a listing or a sync leaves as it was.
pub record KeepsNames {F : Type 0} (directory : Directory F) (old new : F) : Type 0 where
  pub tells : directory.tells new ≡ directory.tells old
  pub seen : WhereNamed directory old (SameNames (directory.seen new) (directory.seen old))
  pub crash : (names : FileNames) → directory.may_leave new names → directory.may_leave old names
  pub time : GoesOnIn directory old new

-- A call that changes names by such a step, whether or not it ends well: until a sync a crash leaves each of
-- them as it was or as it is after the step.
pub record ChangesNames {F : Type 0} (directory : Directory F) (step : FileNames → FileNames) (old new : F) :
    Type 0 where
  pub tells : directory.tells new ≡ directory.tells old
  pub seen : WhereNamed directory old
      (Mixes (directory.seen old) (step (directory.seen old)) (directory.seen new))
  pub crash : (names : FileNames) → directory.may_leave new names
      → (before : FileNames) × directory.may_leave old before × Mixes before (step before) names
  pub time : GoesOnIn directory old new

-- It was told as failed only where the folder has.
pub record HasCauseIn {F T : Type 0} (directory : Directory F) (old new : F) (result : Result T DeviceFault) :
    Type 0 where
  pub failed : IsErrOf result Failed → directory.failed new ≡ true
  pub lasts : directory.failed old ≡ true → directory.failed new ≡ true
