-- What the calls of a file in memory leave.
use Rattle.std.proofs.Common.{◌≡◌, ⊎_elim, ℕ, ◌+◌, List, ◌++◌, length, take, drop, refl, sym, ◌∙◌, ap, subst}
use Rattle.std.specs.Prelude.{Vec}
use Rattle.std.specs.declared.alloc.Global.{Global}
use Rattle.rv_journal.specs.Device.{Holds, KeepsFile, Mixed, Only, WritesFile}
use Rattle.rv_journal.specs.Memory.{HasSome, IsCalled, IsWritten, MemoryState, memory_disk}
use Rattle.rv_journal.specs.declared.testing.memory.DeviceCall.TheVariants.{Write, Sync}
use Rattle.rv_journal.proofs.Calls.{elapses_to, left_after, seen_after}
use Rattle.rv_journal.proofs.Holding.{overwritten_mixed}

module _ (old new : MemoryState) (is : IsCalled Sync old new) where
  pub durable_synced : Only (memory_disk.seen old) (memory_disk.may_leave new)
  durable_synced c left = left_after old new Sync is c left

  pub keeps_synced : KeepsFile memory_disk old new
  keeps_synced = record {
    tells = refl;
    seen = λ told. seen_after old new Sync is;
    crash = λ c left. subst (λ (f : List ℕ). memory_disk.may_leave old f) (sym (durable_synced c left))
        (memory_disk.leaves_seen old refl);
    time = elapses_to old new Sync is;
  }

pub bytes_written : (old new : MemoryState) (at : ℕ) (v : Vec ℕ Global) (bytes was now : List ℕ)
    → IsCalled (Write at v) old new → v.items ≡ bytes → was ≡ memory_disk.seen old → Holds was at bytes now
    → now ≡ memory_disk.seen new
bytes_written old new at v bytes was now is same was_seen holds =
    let seen = memory_disk.seen old in
    holds ∙ ap (λ (l : List ℕ). take at l ++ bytes ++ drop (at + length bytes) l) was_seen
    ∙ ap (λ (l : List ℕ). take at seen ++ l ++ drop (at + length l) seen) (sym same)
    ∙ sym (seen_after old new (Write at v) is)

some_mixed : (at : ℕ) (bytes old new : List ℕ) → HasSome at bytes old new → Mixed at bytes old new
some_mixed at bytes old new = ⊎_elim (λ (mixed : Mixed at bytes old new). mixed)
    (λ (all : Holds old at bytes new). subst (λ (f : List ℕ). Mixed at bytes old f) (sym all)
    (overwritten_mixed at bytes old))

module _ (at : ℕ) (piece : List ℕ) (old new : MemoryState) (is : IsWritten at piece old new) where
  pub holds_written : Holds (memory_disk.seen old) at piece (memory_disk.seen new)
  holds_written =
      let seen = memory_disk.seen old in
      subst (λ (bytes : List ℕ). memory_disk.seen new
      ≡ take at seen ++ bytes ++ drop (at + length bytes) seen) is.1 (seen_after old new (Write at is.0) is.2)

  pub writes_written : WritesFile memory_disk at piece old new
  writes_written = record {
    tells = refl;
    others = λ told. subst (λ (f : List ℕ). Mixed at piece (memory_disk.seen old) f) (sym holds_written)
        (overwritten_mixed at piece (memory_disk.seen old));
    crash = λ c left.
        let from = left_after old new (Write at is.0) is.2 c left in (
          from.0,
          from.1,
          subst (λ (bytes : List ℕ). Mixed at bytes from.0 c) is.1
              (some_mixed at is.0.items from.0 c from.2),
        );
    time = elapses_to old new (Write at is.0) is.2;
  }
