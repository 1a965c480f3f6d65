-- A device as contracts see it, and what its calls and a crash do to its file.
use Rattle.std.specs.Prelude.{◌<◌, ◌≡◌, ◌⊎◌, ℕ, ◌+◌, ◌≤◌, max, Bool, IsErrOf, IsTrue, Result, true, List}
use Rattle.std.specs.Prelude.{◌++◌, length, take, drop}
use Rattle.std.specs.Prelude.{slice_index}
use Rattle.rv_journal.specs.declared.device.DeviceFault.{DeviceFault}
use Rattle.rv_journal.specs.declared.device.DeviceFault.TheVariants.{Failed}

-- What a device tells of itself, as functions of it.
pub record Disk (D : Type 0) : Type 1 where
  -- whether it tells what it holds: a file of the system does not
  pub tells : D → Bool
  -- the bytes that a read returns
  pub seen : D → List ℕ
  -- what a crash now may leave
  pub may_leave : D → List ℕ → Type 0
  -- the moment, a number that does not fall
  pub moment : D → ℕ
  -- what a crash from that moment on might have left, during a call or between two
  pub left_since : D → ℕ → List ℕ → Type 0
  -- whether it has failed
  pub failed : D → Bool
  -- which file it is, by a number
  pub number : D → ℕ
  -- a crash may leave what a read returns
  pub leaves_seen : (file : D) → IsTrue (tells file) → may_leave file (seen file)
  -- now is one of the moments since an earlier one
  pub counts_now : (file : D) (t : ℕ) (c : List ℕ) → t ≤ moment file → may_leave file c → left_since file t c
  -- since now there is no other moment
  pub only_now : (file : D) (c : List ℕ) → left_since file (moment file) c → may_leave file c

-- new is old with these bytes at this offset
abbrev pub Holds : List ℕ → ℕ → List ℕ → List ℕ → Type 0
Holds old at bytes new = new ≡ take at old ++ bytes ++ drop (at + length bytes) old

-- The room begins with so many bytes of the file from this offset on: none only at its end, or where there is
-- no room.
pub record ReadsAt (file : List ℕ) (at count : ℕ) (room : List ℕ) : Type 0 where
  pub bytes : take count room ≡ take count (drop at file)
  pub some : at < length file → 0 < length room → 0 < count

-- After a write that a crash cuts short: below the old end each byte is the old one or, in the range, the one
-- that was written; past the old end any bytes.
pub record Mixed (at : ℕ) (bytes old new : List ℕ) : Type 0 where
  pub no_shorter : length old ≤ length new
  pub no_longer : length new ≤ max (length old) (at + length bytes)
  pub below : (i : ℕ) → i < length old → i < at → slice_index new i ≡ slice_index old i
  pub above : (i : ℕ) → i < length old → at + length bytes ≤ i → slice_index new i ≡ slice_index old i
  pub each : (i : ℕ) → i < length bytes → at + i < length old
      → (slice_index new (at + i) ≡ slice_index old (at + i)) ⊎ (slice_index new (at + i) ≡ slice_index bytes
      i)

-- each new outcome of a crash is an old outcome after a step
abbrev pub Follows : (List ℕ → List ℕ → Type 0) → (List ℕ → Type 0) → (List ℕ → Type 0) → Type 0
Follows step old new = (c : List ℕ) → new c → (d : List ℕ) × old d × step d c

-- a crash leaves this and nothing else
abbrev pub Only : List ℕ → (List ℕ → Type 0) → Type 0
Only file outcomes = (c : List ℕ) → outcomes c → c ≡ file

-- Time goes on for a file: a crash since t might have left what it might have left before, or what it may
-- leave
-- now.
pub record Elapses {D : Type 0} (disk : Disk D) (old new : D) : Type 0 where
  pub same : disk.number new ≡ disk.number old
  pub later : disk.moment old ≤ disk.moment new
  pub nothing_else : (t : ℕ) (c : List ℕ) → t ≤ disk.moment old → disk.left_since new t c
      → disk.left_since old t c ⊎ disk.may_leave new c
  pub keeps : (t : ℕ) (c : List ℕ) → t ≤ disk.moment old → disk.left_since old t c → disk.left_since new t c

-- It is the same file, and a crash at any moment since old leaves one that has P.
pub record LeavesOnly {D : Type 0} (disk : Disk D) (old new : D) (P : List ℕ → Type 0) : Type 0 where
  pub same : disk.number new ≡ disk.number old
  pub later : disk.moment old ≤ disk.moment new
  pub each : (c : List ℕ) → disk.left_since new (disk.moment old) c → P c
  -- for a run that began earlier
  pub before : (t : ℕ) (c : List ℕ) → t ≤ disk.moment old → disk.left_since new t c
      → disk.left_since old t c ⊎ P c

-- what a crash may have left, with some of these bytes in it
abbrev pub MayMix : {D : Type 0} → Disk D → ℕ → List ℕ → D → List ℕ → Type 0
MayMix disk at bytes file c = (d : List ℕ) × disk.may_leave file d × Mixed at bytes d c

-- where the device tells what it holds
abbrev pub WhereTold : {D : Type 0} → Disk D → D → Type 0 → Type 0
WhereTold disk file P = IsTrue (disk.tells file) → P

-- It was told as failed only where the device has.
pub record HasCause {D T : Type 0} (disk : Disk D) (old new : D) (result : Result T DeviceFault) :
    Type 0 where
  pub failed : IsErrOf result Failed → disk.failed new ≡ true
  pub lasts : disk.failed old ≡ true → disk.failed new ≡ true

-- What a read or a sync leaves as it was.
pub record KeepsFile {D : Type 0} (disk : Disk D) (old new : D) : Type 0 where
  pub tells : disk.tells new ≡ disk.tells old
  pub seen : IsTrue (disk.tells old) → disk.seen new ≡ disk.seen old
  pub crash : (c : List ℕ) → disk.may_leave new c → disk.may_leave old c
  pub time : Elapses disk old new

-- What a write leaves, also one that failed.
pub record WritesFile {D : Type 0} (disk : Disk D) (at : ℕ) (bytes : List ℕ) (old new : D) : Type 0 where
  pub tells : disk.tells new ≡ disk.tells old
  pub others : IsTrue (disk.tells old) → Mixed at bytes (disk.seen old) (disk.seen new)
  pub crash : Follows (Mixed at bytes) (disk.may_leave old) (disk.may_leave new)
  pub time : Elapses disk old new

-- A write and a sync after it, also where one of them failed.
pub record Rewrites {D : Type 0} (disk : Disk D) (at : ℕ) (bytes : List ℕ) (old new : D) : Type 0 where
  pub tells : disk.tells new ≡ disk.tells old
  pub others : IsTrue (disk.tells old) → Mixed at bytes (disk.seen old) (disk.seen new)
  pub any_moment : LeavesOnly disk old new (MayMix disk at bytes old)

-- and where none did
pub record IsRewritten {D : Type 0} (disk : Disk D) (at : ℕ) (bytes : List ℕ) (old new : D) : Type 0 where
  pub holds : Holds (disk.seen old) at bytes (disk.seen new)
  pub durable : Only (disk.seen new) (disk.may_leave new)
