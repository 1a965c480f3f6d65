-- A folder in memory: what its changes come to, and what a crash leaves of them.
use Rattle.std.specs.Prelude.{◌≡◌, ◌⊎◌, ◌≤◌, ℕ, List, [], ◌∷◌, ◌++◌, Option, None, Some, false, true, length}
use Rattle.std.specs.Prelude.{take}
use Rattle.std.specs.Prelude.{if◌then◌else◌}
use Rattle.rv_journal.specs.folders.Folder.{Directory, GivenFile, FileNames, SameNames, is_same_name}
use Rattle.rv_journal.specs.folders.Folder.{name_made}
use Rattle.rv_journal.specs.folders.Folder.{or_else}
use Rattle.rv_journal.specs.declared.folders.folder.FileName.{FileName}
use Rattle.rv_journal.specs.declared.folders.testing.memory.FileNumber.{FileNumber}
use Rattle.rv_journal.specs.declared.folders.testing.memory.KeptNames.{KeptNames}
use Rattle.rv_journal.specs.declared.folders.testing.memory.NameChange.{NameChange}
use Rattle.rv_journal.specs.declared.folders.testing.memory.NameChange.TheVariants.{Made, Renamed}

-- the changes of its names, and how many of them are stored
pub record MemoryNames : Type 0 where
  pub changes : List NameChange
  pub stored : ℕ

abbrev pub memory_names : KeptNames → MemoryNames
memory_names kept = record { changes = kept.changes.items; stored = kept.stored }

abbrev pub given_file : FileNumber → GivenFile
given_file file = record { number = file.number; since = file.since }

-- what a name stands for after a change, if it stood for this
abbrev pub after_change : NameChange → FileName → Option GivenFile → Option GivenFile
after_change (Made made file) name was =
    if is_same_name name made then or_else was (Some (given_file file)) else was
after_change (Renamed from to file) name was =
    if is_same_name name to then Some (given_file file) else if is_same_name name from then None else was

-- the name that it gives
abbrev pub name_given : NameChange → FileName
name_given (Made name file) = name
name_given (Renamed from to file) = to

abbrev pub after_changes : List NameChange → FileNames → FileNames
after_changes [] names = names
after_changes (change ∷ changes) names = after_changes changes (λ name. after_change change name (names name))

-- what names stand for after these changes
abbrev pub names_after : List NameChange → FileNames
names_after changes = after_changes changes (λ name. None)

-- one change more
abbrev pub IsChanged : NameChange → MemoryNames → MemoryNames → Type 0
IsChanged change old new = (new.changes ≡ old.changes ++ change ∷ []) × (new.stored ≡ old.stored)

-- the name stood for none and was made to stand for some file, or nothing changed
abbrev pub MayMake : FileName → MemoryNames → MemoryNames → Type 0
MayMake name old new = (new ≡ old) ⊎ ((file : FileNumber) × IsChanged (Made name file) old new)

-- The name stands for this file: for the one that it stood for, or for it as a new one.
pub record IsMadeAs (name : FileName) (file : GivenFile) (old new : MemoryNames) : Type 0 where
  pub names : SameNames (names_after new.changes) (name_made name file (names_after old.changes))
  pub number : (had : GivenFile) → names_after old.changes name ≡ Some had → had.number ≡ file.number

-- what they stood for after some changes, at least so many
abbrev pub StoodSince : ℕ → List NameChange → FileNames → Type 0
StoodSince least changes names = (k : ℕ) × (least ≤ k) × (k ≤ length changes)
    × SameNames names (names_after (take k changes))

abbrev pub memory_directory : Directory MemoryNames
memory_directory = record {
  tells = λ f. true;
  seen = λ f. names_after f.changes;
  may_leave = λ f. StoodSince f.stored f.changes;
  left = λ f. StoodSince 0 f.changes;
  failed = λ f. false;
}
