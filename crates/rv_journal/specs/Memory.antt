-- A file in memory as a device: what a crash may leave that mixes what its calls wrote.
use Rattle.std.specs.Prelude.{◌≡◌, ◌⊎◌, ℕ, ◌+◌, ◌≤◌, true, false, List, [], ◌∷◌, ◌++◌, length, take, drop}
use Rattle.std.specs.Prelude.{Vec}
use Rattle.std.specs.declared.alloc.Global.{Global}
use Rattle.std.proofs.Common.{inr, refl, sym, subst, arith}
use Rattle.std.proofs.lemmas.List.{take_all}
use Rattle.rv_journal.specs.Device.{Disk, Holds, Mixed}
use Rattle.rv_journal.specs.declared.testing.memory.DeviceCall.{DeviceCall}
use Rattle.rv_journal.specs.declared.testing.memory.DeviceCall.TheVariants.{Write, Sync}
use Rattle.rv_journal.specs.declared.testing.memory.KeptCalls.{KeptCalls}

-- which file it is, what it had at first, and the calls since
pub record MemoryState : Type 0 where
  pub number : ℕ
  pub first : List ℕ
  pub calls : List DeviceCall

abbrev pub memory_state : KeptCalls → MemoryState
memory_state kept = record { number = kept.number; first = kept.first.items; calls = kept.calls.items }

-- a file after a call
abbrev pub after_call : List ℕ → DeviceCall → List ℕ
after_call file (Write at bytes) = take at file ++ bytes.items ++ drop (at + length bytes.items) file
after_call file Sync = file

-- and after all of them
abbrev pub after_calls : List ℕ → List DeviceCall → List ℕ
after_calls file [] = file
after_calls file (call ∷ calls) = after_calls (after_call file call) calls

-- what its calls made of it is what it has
abbrev pub has_bytes : KeptCalls → Type 0
has_bytes kept = kept.bytes.items ≡ after_calls kept.first.items kept.calls.items

-- one call more
pub record IsCalled (call : DeviceCall) (old new : MemoryState) : Type 0 where
  pub number : new.number ≡ old.number
  pub first : new.first ≡ old.first
  pub calls : new.calls ≡ old.calls ++ call ∷ []

abbrev pub IsWritten : ℕ → List ℕ → MemoryState → MemoryState → Type 0
IsWritten at bytes old new = (v : Vec ℕ Global) × (v.items ≡ bytes) × IsCalled (Write at v) old new

-- some of these bytes were written, or all
abbrev pub HasSome : ℕ → List ℕ → List ℕ → List ℕ → Type 0
HasSome at bytes old new = Mixed at bytes old new ⊎ Holds old at bytes new

-- what a crash may leave after these calls of a file, where it could leave this before them
abbrev pub LeavesAfter : (List ℕ → Type 0) → List ℕ → List DeviceCall → List ℕ → Type 0
LeavesAfter was file [] c = was c
LeavesAfter was file (Write at bytes ∷ calls) c = LeavesAfter (λ new. (old : List ℕ) × was old
    × HasSome at bytes.items old new) (after_call file (Write at bytes)) calls c
LeavesAfter was file (Sync ∷ calls) c = LeavesAfter (λ new. new ≡ file) file calls c

-- what it may leave after these calls of a file that had this at first
abbrev pub LeavesOf : List ℕ → List DeviceCall → List ℕ → Type 0
LeavesOf first calls = LeavesAfter (λ c. c ≡ first) first calls

-- what it might have left after the first k of them, for some k from t on
abbrev pub LeftSince : List ℕ → List DeviceCall → ℕ → List ℕ → Type 0
LeftSince first calls t c = (k : ℕ) × (t ≤ k) × (k ≤ length calls) × LeavesOf first (take k calls) c

pub left_now : (first : List ℕ) (calls : List DeviceCall) (t : ℕ) (c : List ℕ) → t ≤ length calls
    → LeavesOf first calls c → LeftSince first calls t c
left_now first calls t c le now = (
  length calls,
  le,
  omega arith,
  subst (λ (l : List DeviceCall). LeavesOf first l c)
      (sym (take_all (length calls) calls (omega arith))) now,
)

pub only_left : (first : List ℕ) (calls : List DeviceCall) (c : List ℕ)
    → LeftSince first calls (length calls) c
    → LeavesOf first calls c
only_left first calls c left =
    subst (λ (l : List DeviceCall). LeavesOf first l c) (take_all left.0 calls left.1) left.3

-- a crash may leave what its calls made of it
pub whole_left : (was : List ℕ → Type 0) (file : List ℕ) (calls : List DeviceCall) → was file
    → LeavesAfter was file calls (after_calls file calls)
whole_left was file [] so = so
whole_left was file (Write at bytes ∷ calls) so = whole_left (λ new. (old : List ℕ) × was old
    × HasSome at bytes.items old new) (after_call file (Write at bytes)) calls
    (file, so, inr refl)
whole_left was file (Sync ∷ calls) so = whole_left (λ new. new ≡ file) file calls refl

-- the device: each call is a moment
abbrev pub memory_disk : Disk MemoryState
memory_disk = record {
  tells = λ m. true;
  seen = λ m. after_calls m.first m.calls;
  may_leave = λ m. LeavesOf m.first m.calls;
  moment = λ m. length m.calls;
  left_since = λ m. LeftSince m.first m.calls;
  failed = λ m. false;
  number = λ m. m.number;
  leaves_seen = λ m told. whole_left (λ c. c ≡ m.first) m.first m.calls refl;
  counts_now = λ m. left_now m.first m.calls;
  only_now = λ m. only_left m.first m.calls;
}
