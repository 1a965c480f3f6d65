-- A file that is filled with zeros after its text.
use Rattle.std.specs.Prelude.{◌≡◌, ◌<◌, ◌^◌, ℕ, List, [], length, replicate, take}
use Rattle.rv_journal.specs.Device.{Disk, LeavesOnly, Only, WhereTold}
use Rattle.rv_journal.specs.Text.{before_zero, HasFront, IsBlankFrom}
use Rattle.rv_journal.specs.declared.filled.FilledFile.{FilledFile}

-- how many zeros are put ahead at once
abbrev pub ahead : ℕ
ahead = 2 ^ 20

-- the text that stands in it
abbrev pub file_text : {D : Type 0} → Disk D → FilledFile D → List ℕ
file_text disk file = take file.end (disk.seen file.device)

-- The text and zeros after it, all of it stored.
pub record IsFilled {D : Type 0} (disk : Disk D) (file : FilledFile D) : Type 0 where
  pub end : file.end ≡ length (before_zero (disk.seen file.device))
  pub filled : file.filled ≡ length (disk.seen file.device)
  pub blank : IsBlankFrom file.end (disk.seen file.device)
  pub durable : Only (disk.seen file.device) (disk.may_leave file.device)

-- A file that can take a piece: at least one zero stands after its text.
pub record TakesPieces {D : Type 0} (disk : Disk D) (file : FilledFile D) : Type 0 where
  pub zeros : file.zeros.items ≡ replicate (length file.zeros.items) 0
  pub size : length file.zeros.items ≡ ahead
  pub behind : file.end < file.filled
  pub filled : WhereTold disk file.device (IsFilled disk file)

-- A call that adds a piece, whether or not it ends well: a crash at any moment of it leaves the text, and a
-- front of the piece.
pub record AddsPiece {D : Type 0} (disk : Disk D) (piece : List ℕ) (old new : FilledFile D) : Type 0 where
  pub tells : disk.tells new.device ≡ disk.tells old.device
  pub any_moment : WhereTold disk old.device
      (LeavesOnly disk old.device new.device (HasFront (file_text disk old) piece))

-- what stood before is there, whether the call ended well or not
abbrev pub KeepsFront : {D : Type 0} → Disk D → FilledFile D → FilledFile D → Type 0
KeepsFront disk old new = WhereTold disk old.device (take old.end (disk.seen new.device) ≡ file_text disk old)

-- A call that only fills it, whether or not it ends well: the text goes on as it was.
pub record OnlyFills {D : Type 0} (disk : Disk D) (old new : FilledFile D) : Type 0 where
  pub end : new.end ≡ old.end
  pub front : KeepsFront disk old new
  pub adds : AddsPiece disk [] old new
