-- A file that is made a journal: filled with zeros, and then given its first text.
use Rattle.std.specs.Prelude.{◌≡◌, ◌<◌, ◌⊎◌, ℕ, [], List, length}
use Rattle.rv_journal.specs.Device.{Disk, MayMix, Only, WhereTold}
use Rattle.rv_journal.specs.Opened.{Looks}
use Rattle.rv_journal.specs.Text.{HasFront, IsBlankFrom}

-- So many zeros and nothing else, all of it stored.
pub record IsZeroed {D : Type 0} (disk : Disk D) (count : ℕ) (file : D) : Type 0 where
  pub size : count ≡ length (disk.seen file)
  pub blank : IsBlankFrom 0 (disk.seen file)
  pub durable : Only (disk.seen file) (disk.may_leave file)

-- A file that is longer is as it was.
pub record IsLeftLong {D : Type 0} (disk : Disk D) (count : ℕ) (old new : D) : Type 0 where
  pub looks : Looks disk old new
  pub long : WhereTold disk old (count < length (disk.seen old))

-- what a crash may have left, with zeros in place of some of the first so many bytes, and any past its end
abbrev pub MayZero : {D : Type 0} → Disk D → ℕ → D → List ℕ → Type 0
MayZero disk count file c = (zeros : List ℕ) × (length zeros ≡ count) × IsBlankFrom 0 zeros
    × MayMix disk 0 zeros file c

-- and once zeros are stored, a file of a front of this text
abbrev pub MayBegin : {D : Type 0} → Disk D → ℕ → D → List ℕ → List ℕ → Type 0
MayBegin disk count file text c = MayZero disk count file c ⊎ HasFront [] text c
