-- Which epoch's account is the present one.
use Rattle.std.specs.Prelude.{◌<◌, ℕ, IsTrue, Option, None, Some, is_some}
use Rattle.rv_journal.specs.folders.Folder.{FileNames}
use Rattle.rv_journal.specs.declared.folders.folder.FileName.TheVariants.{Account}

-- the account of this epoch has a file
abbrev pub HasAccount : FileNames → ℕ → Type 0
HasAccount names epoch = IsTrue (is_some (names (Account epoch)))

-- the greatest epoch whose account has a file, if there is one
abbrev pub IsPresent : FileNames → Option ℕ → Type 0
IsPresent names None = (epoch : ℕ) → HasAccount names epoch → ⊥
IsPresent names (Some present) = HasAccount names present
    × ((epoch : ℕ) → present < epoch → HasAccount names epoch → ⊥)
