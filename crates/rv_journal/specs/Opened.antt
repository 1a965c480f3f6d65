-- A file whose lines were read after a crash, and that was cleared after them.
use Rattle.std.specs.Prelude.{◌≡◌, ◌<◌, ◌≤◌, ◌⊎◌, ℕ, IsTrue, List, length, slice_index}
use Rattle.rv_journal.specs.Cutter.{RefusesFront}
use Rattle.rv_journal.specs.Device.{Disk, LeavesOnly, Only, WhereTold}
use Rattle.rv_journal.specs.Text.{before_zero, stored_lines, HasZero, IsBlankFrom}

-- A reader in this state takes these lines, and makes this of them.
pub record MakesOf {R T : Type 0} (takes : R → List ℕ → R → Type 0) (makes : R → T → Type 0) (reader : R)
    (lines : List ℕ) (output : T) : Type 0 where
  pub last : R
  pub taken : takes reader lines last
  pub made : makes last output

-- It takes them, and makes nothing of them for this reason.
pub record LacksOf {R F : Type 0} (takes : R → List ℕ → R → Type 0) (lacks : R → F → Type 0) (reader : R)
    (lines : List ℕ) (why : F) : Type 0 where
  pub last : R
  pub taken : takes reader lines last
  pub lacking : lacks last why

-- the lines that a file stands for
abbrev pub file_lines : {D : Type 0} → Disk D → D → List ℕ
file_lines disk file = stored_lines (disk.seen file)

-- a file of these lines
abbrev pub HasLines : List ℕ → List ℕ → Type 0
HasLines lines file = stored_lines file ≡ lines

-- What calls leave that only look at a file.
pub record Looks {D : Type 0} (disk : Disk D) (old new : D) : Type 0 where
  pub tells : disk.tells new ≡ disk.tells old
  pub seen : IsTrue (disk.tells old) → disk.seen new ≡ disk.seen old
  pub crash : (c : List ℕ) → disk.may_leave new c → disk.may_leave old c
  pub any_moment : LeavesOnly disk old new (disk.may_leave old)

-- What calls leave that write after the lines of a file, whether or not they end well.
pub record KeepsLines {D : Type 0} (disk : Disk D) (old new : D) : Type 0 where
  pub tells : disk.tells new ≡ disk.tells old
  pub lines : WhereTold disk old (HasLines (file_lines disk old) (disk.seen new))
  pub any_moment : WhereTold disk old (LeavesOnly disk old new (HasLines (file_lines disk old)))

-- Its lines end here, and zeros stand after them up to this offset, all of it stored.
pub record IsClearedTo {D : Type 0} (disk : Disk D) (end at size : ℕ) (file : D) : Type 0 where
  pub lines : end ≡ length (file_lines disk file)
  pub filled : size ≡ length (disk.seen file)
  pub zeros : (i : ℕ) → end ≤ i → i < at → slice_index (disk.seen file) i ≡ 0
  pub durable : Only (disk.seen file) (disk.may_leave file)

-- The lines and zeros after them, all of it stored.
pub record IsCleared {D : Type 0} (disk : Disk D) (lines : List ℕ) (size : ℕ) (file : D) : Type 0 where
  pub text : before_zero (disk.seen file) ≡ lines
  pub filled : size ≡ length (disk.seen file)
  pub blank : IsBlankFrom (length lines) (disk.seen file)
  pub durable : Only (disk.seen file) (disk.may_leave file)

-- a crash leaves what it might have left before, or a file of the same lines
abbrev pub HasLinesOf : {D : Type 0} → Disk D → D → List ℕ → Type 0
HasLinesOf disk file c = disk.may_leave file c ⊎ HasLines (file_lines disk file) c

-- A file without a zero is as it was.
pub record IsLeftUnfilled {D : Type 0} (disk : Disk D) (old new : D) : Type 0 where
  pub looks : Looks disk old new
  pub no_zero : WhereTold disk old (HasZero (disk.seen old) → ⊥)

-- A file whose lines a reader refused is as it was. It refused a front of them, or it took all of them.
pub record IsLeftRefused {D R F : Type 0} (disk : Disk D) (takes : R → List ℕ → R → Type 0)
    (refuses : R → List ℕ → F → Type 0) (lacks : R → F → Type 0) (old new : D) (reader : R) (why : F) :
    Type 0 where
  pub looks : Looks disk old new
  pub lines : WhereTold disk old (RefusesFront refuses reader (file_lines disk old) why
      ⊎ LacksOf takes lacks reader (file_lines disk old) why)
