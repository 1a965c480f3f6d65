-- A folder of the system as contracts see it.
use Rattle.std.specs.Prelude.{◌≡◌, ◌≤◌, ◌++◌, ◌∷◌, [], ℕ, ⊤, Bool, List, None, Option, Some, codes, false}
use Rattle.std.specs.Prelude.{is_some, string_bytes}
use Rattle.std.specs.Fmt.{decimal}
use Rattle.std.specs.List.{All, Contains}
use Rattle.rv_journal.specs.folders.Folder.{Directory}
use Rattle.rv_journal.specs.declared.folders.folder.FileName.{FileName}
use Rattle.rv_journal.specs.declared.folders.folder.FileName.TheVariants.{Account, Unready}
use Rattle.rv_journal.specs.declared.folders.system.SystemFolder.{SystemFolder}

-- a call of it failed
abbrev pub has_folder_fault : SystemFolder → Bool
has_folder_fault folder = is_some folder.fault

abbrev pub folder_path : SystemFolder → List ℕ
folder_path folder = string_bytes folder.path

-- how long a file of it may become
abbrev pub most_in : SystemFolder → ℕ
most_in folder = folder.most

-- a name as the system has it
abbrev pub name_text : FileName → List ℕ
name_text (Account epoch) = codes "epoch-" ++ decimal epoch ++ codes ".account"
name_text Unready = codes "unready.account"

-- where the file of a name lies in a folder: with a slash (47) between
abbrev pub path_in : List ℕ → FileName → List ℕ
path_in folder name = folder ++ 47 ∷ name_text name

-- the path of some epoch's account
abbrev pub IsAccountPath : List ℕ → List ℕ → Type 0
IsAccountPath folder path = (epoch : ℕ) × (path ≡ path_in folder (Account epoch))

-- the greatest of these, if there is one
abbrev pub IsGreatestOf : List ℕ → Option ℕ → Type 0
IsGreatestOf epochs None = epochs ≡ []
IsGreatestOf epochs (Some epoch) = Contains epochs epoch × All (λ other. other ≤ epoch) epochs

-- the path of the account of the greatest of these epochs, if there is one
abbrev pub IsGreatestPath : List ℕ → List ℕ → Option (List ℕ) → Type 0
IsGreatestPath folder epochs None = IsGreatestOf epochs None
IsGreatestPath folder epochs (Some path) = (epoch : ℕ) × IsGreatestOf epochs (Some epoch)
    × (path ≡ path_in folder (Account epoch))

-- it tells nothing, and a crash may leave anything
abbrev pub system_directory : Directory SystemFolder
system_directory = record {
  tells = λ f. false;
  seen = λ f name. None;
  may_leave = λ f names. ⊤;
  left = λ f names. ⊤;
  failed = λ f. has_folder_fault f;
}
