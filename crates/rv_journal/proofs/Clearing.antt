-- What zeros leave that are written after the lines of a file, and stored.
use Rattle.std.proofs.Common.{◌≡◌, ⊎_elim, ℕ, ◌+◌, ◌<◌, ◌≤◌, List, replicate, length, get_or, take, sym, ◌∙◌}
use Rattle.std.proofs.Common.{ap}
use Rattle.std.proofs.Common.{subst, arith, length-take}
use Rattle.std.specs.Prelude.{IsTrue}
use Rattle.std.proofs.lemmas.Bool.{cases_lt}
use Rattle.std.proofs.lemmas.List.{get_or-take, get_or_past}
use Rattle.std.proofs.lemmas.List.{length-take-le}
use Rattle.rv_journal.specs.Device.{Disk, IsRewritten, LeavesOnly, MayMix, Mixed, Rewrites, WhereTold}
use Rattle.rv_journal.specs.Opened.{HasLines, IsCleared, IsClearedTo, KeepsLines, file_lines}
use Rattle.rv_journal.proofs.Holding.{holds_mixed, same_size}
use Rattle.rv_journal.proofs.Moments.{joined, weaker}
use Rattle.rv_journal.proofs.Zeros.{all_blank}
use Rattle.rv_journal.proofs.Reopened.{mixed_lines, only_lines, zeros_on}

-- no byte of some zeros is other than zero
pub zeros_blank : (zeros : List ℕ) (n i : ℕ) → zeros ≡ replicate (length zeros) 0
    → get_or (take n zeros) i 0 ≡ 0
zeros_blank zeros n i are = ⊎_elim (λ (low : i < n). get_or-take n zeros i 0 low ∙ all_blank zeros are i
    (omega arith)) (λ (past : n ≤ i). get_or_past (take n zeros) i 0
    (omega (arith, past, length-take n zeros)))
    (cases_lt i n)

module _ {D : Type 0} (disk : Disk D) (end at size : ℕ) (old : D) (is : IsClearedTo disk end at size old)
  where
    -- it is cleared once zeros stand as far as it goes
    pub is_cleared : end < size → size ≤ at → (lines : List ℕ) → HasLines lines (disk.seen old)
        → IsCleared disk lines size old
    is_cleared some whole lines has = record {
      text = only_lines (disk.seen old) end is.lines (is.zeros end (omega arith) (omega (arith, some, whole)))
          ∙ has;
      filled = is.filled;
      blank = λ i past. ⊎_elim (λ (low : i < size). is.zeros i (omega (arith, past, is.lines, ap length has))
          (omega (arith, low, whole))) (λ (behind : size ≤ i). get_or_past (disk.seen old) i 0
          (omega (arith, behind, is.filled))) (cases_lt i size);
      durable = is.durable;
    }

    module _ (after : end ≤ at) (zeros : List ℕ) (are : zeros ≡ replicate (length zeros) 0) (count : ℕ)
        (short :
        count ≤ length zeros) (fit : at + count ≤ size) (new : D) where
      piece_size : length (take count zeros) ≡ count
      piece_size = length-take-le count zeros short

      inside : at + length (take count zeros) ≤ length (disk.seen old)
      inside = omega (arith, fit, is.filled, piece_size)

      same : (c : List ℕ) → Mixed at (take count zeros) (disk.seen old) c → HasLines (file_lines disk old) c
      same c mixed = mixed_lines (disk.seen old) end is.lines at after (take count zeros)
          (λ i. zeros_blank zeros count i are) inside c mixed

      any_moment : Rewrites disk at (take count zeros) old new
          → LeavesOnly disk old new (HasLines (file_lines disk old))
      any_moment writes =
          weaker disk old new (MayMix disk at (take count zeros) old) (HasLines (file_lines disk old))
          writes.any_moment (λ c has. same c (subst (λ (f : List ℕ). Mixed at (take count zeros) f c)
          (is.durable has.0 has.1) has.2))

      lines_stay : Rewrites disk at (take count zeros) old new → IsTrue (disk.tells old)
          → HasLines (file_lines disk old) (disk.seen new)
      lines_stay writes told = same (disk.seen new) (writes.others told)

      module _ (done : IsRewritten disk at (take count zeros) old new) where
        same_lines : HasLines (file_lines disk old) (disk.seen new)
        same_lines = same (disk.seen new) (holds_mixed (disk.seen old) (take count zeros) (disk.seen new) at
            (omega (arith, inside)) done.holds)

        pub cleared_on : IsClearedTo disk end (at + count) size new
        cleared_on = record {
          lines = is.lines ∙ ap length (sym same_lines);
          filled = is.filled ∙ sym (same_size (disk.seen old) (take count zeros) (disk.seen new) at
              (omega (arith, inside)) done.holds inside);
          zeros = λ i past low. zeros_on (disk.seen old) end is.lines at after (take count zeros)
              (λ k. zeros_blank zeros count k are) inside is.zeros (disk.seen new) done.holds i past
              (omega (arith, low, piece_size));
          durable = done.durable;
        }

-- whether or not the zeros were written and stored
pub keeps_lines : {D : Type 0} (disk : Disk D) (end at size : ℕ) (old new : D)
    → WhereTold disk old (IsClearedTo disk end at size old) → end ≤ at → (zeros : List ℕ)
    → zeros ≡ replicate (length zeros) 0 → (count : ℕ) → count ≤ length zeros → at + count ≤ size
    → Rewrites disk at (take count zeros) old new → KeepsLines disk old new
keeps_lines disk end at size old new cleared after zeros are count short fit writes = record {
  tells = writes.tells;
  lines = λ told. lines_stay disk end at size old (cleared told) after zeros are count short fit new writes
      told;
  any_moment = λ told. any_moment disk end at size old (cleared told) after zeros are count short fit new
      writes;
}

pub keeps_further : {D : Type 0} (disk : Disk D) (old mid new : D) → KeepsLines disk old mid
    → KeepsLines disk mid new → KeepsLines disk old new
keeps_further disk old mid new first later = record {
  tells = later.tells ∙ first.tells;
  lines = λ told. later.lines (first.tells ∙ told) ∙ first.lines told;
  any_moment = λ told. joined disk old mid new (HasLines (file_lines disk old)) (first.any_moment told)
      (subst (λ (l : List ℕ). LeavesOnly disk mid new (HasLines l)) (first.lines told)
      (later.any_moment (first.tells ∙ told)));
}
