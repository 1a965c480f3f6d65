-- Whether the account's file is in its place, and as it was left.
use Rattle.std.specs.Prelude.{ℕ, ◌≡◌, Option, Some}
use Rattle.rv_store.specs.declared.keeping.place.FileSeen.{FileSeen}

-- the file under its name is the open one, by device, number and length; and it is as long as what was
-- written to it
pub record IsInPlace (open_one : FileSeen) (named : Option FileSeen) (written : ℕ) : Type 0 where
  pub same : named ≡ Some open_one
  pub whole : open_one.length ≡ written

-- the file under its name is the open one, by device and number
pub record IsUnderName (open_one : FileSeen) (named : Option FileSeen) : Type 0 where
  pub seen : FileSeen
  pub is : named ≡ Some seen
  pub device : seen.device ≡ open_one.device
  pub inode : seen.inode ≡ open_one.inode
