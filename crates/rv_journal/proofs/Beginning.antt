-- What a file comes to that is filled with zeros from its start, and then takes its first text.
use Rattle.std.proofs.Common.{◌≡◌, inl, inr, ℕ, ◌+◌, ◌<◌, ◌≤◌, List, [], ◌++◌, replicate, length, drop}
use Rattle.std.proofs.Common.{sym, ◌∙◌, ap, subst, arith, ⊎_elim, Bool, false}
use Rattle.std.specs.Prelude.{IsTrue}
use Rattle.std.proofs.lemmas.Bool.{cases_lt, false≢true}
use Rattle.std.proofs.lemmas.List.{append-nil, drop_all, length-replicate}
use Rattle.rv_journal.specs.Created.{IsZeroed, MayBegin, MayZero}
use Rattle.rv_journal.specs.Device.{Disk, IsRewritten, LeavesOnly, MayMix, Only, Rewrites, WhereTold}
use Rattle.rv_journal.specs.Filled.{IsFilled, TakesPieces, ahead}
use Rattle.rv_journal.specs.Opened.{Looks}
use Rattle.rv_journal.specs.Text.{before_zero, HasFront, IsBlankFrom}
use Rattle.rv_journal.specs.declared.filled.FilledFile.{FilledFile}
use Rattle.rv_journal.proofs.Mixing.{mixed_same}
use Rattle.rv_journal.proofs.Moments.{joined, started, weaker}
use Rattle.rv_journal.proofs.Texts.{none_before}
use Rattle.rv_journal.proofs.Zeros.{all_blank}

pub not_longer : (count size : ℕ) (longer : Bool) → (count < size → IsTrue longer) → longer ≡ false
    → size ≤ count
not_longer count size longer so is_not = ⊎_elim (λ (low : count < size). absurd
    (false≢true (sym is_not ∙ so low)))
    (λ (le : size ≤ count). le) (cases_lt count size)

module _ {D : Type 0} (disk : Disk D) (old : D) (count : ℕ) where
  unzeroed : (c : List ℕ) → disk.may_leave old c → MayZero disk count old c
  unzeroed c left =
      let size : length (replicate count 0) ≡ count = length-replicate {A = ℕ} count 0 in (
        replicate count 0,
        size,
        all_blank (replicate count 0) (ap (λ (n : ℕ). replicate n 0) (sym size)),
        (c, left, mixed_same 0 (replicate count 0) c),
      )

  pub none_zeroed : LeavesOnly disk old old (MayZero disk count old)
  none_zeroed = started disk old (MayZero disk count old) unzeroed

  pub looked_zeroed : (mid : D) → Looks disk old mid → LeavesOnly disk old mid (MayZero disk count old)
  looked_zeroed mid looks = weaker disk old mid (disk.may_leave old) (MayZero disk count old) looks.any_moment
      unzeroed

  module _ (mid new : D) (looks : Looks disk old mid) (zeros : List ℕ) (are : zeros ≡ replicate (length zeros)
      0)
      (size : length zeros ≡ count) where
    pub then_zeroed : Rewrites disk 0 zeros mid new → LeavesOnly disk old new (MayZero disk count old)
    then_zeroed writes = joined disk old mid new (MayZero disk count old) (looked_zeroed mid looks)
        (weaker disk mid new (MayMix disk 0 zeros mid) (MayZero disk count old) writes.any_moment
        (λ c has. (zeros, size, all_blank zeros are, (has.0, looks.crash has.0 has.1, has.2))))

    pub zeroed : length (disk.seen mid) ≤ count → IsRewritten disk 0 zeros mid new → IsZeroed disk count new
    zeroed short done =
        let none : drop (0 + length zeros) (disk.seen mid) ≡ [] = drop_all (0 + length zeros) (disk.seen mid)
        (omega (arith, short, size)) in
        let is : disk.seen new ≡ zeros = done.holds ∙ ap (λ (l : List ℕ). zeros ++ l) none ∙ append-nil zeros
        in record {
          size = sym size ∙ ap length (sym is);
          blank = subst (λ (l : List ℕ). IsBlankFrom 0 l) (sym is) (all_blank zeros are);
          durable = done.durable;
        }

  pub moved : (mid also : D) (n : ℕ) → also ≡ mid → n ≡ count → LeavesOnly disk old mid (MayZero disk n old)
      → LeavesOnly disk old also (MayZero disk count old)
  moved mid also n same size only = subst (λ (d : D). LeavesOnly disk old d (MayZero disk count old))
      (sym same)
      (subst (λ (k : ℕ). LeavesOnly disk old mid (MayZero disk k old)) size only)

  pub only_zeroed : (mid : D) (text : List ℕ) → LeavesOnly disk old mid (MayZero disk count old)
      → LeavesOnly disk old mid (MayBegin disk count old text)
  only_zeroed mid text zeroed = weaker disk old mid (MayZero disk count old) (MayBegin disk count old text)
      zeroed
      (λ c has. inl has)

  -- and then the first text is stored
  pub then_begun : (mid new : D) (text : List ℕ) → LeavesOnly disk old mid (MayZero disk count old)
      → LeavesOnly disk mid new (HasFront [] text) → LeavesOnly disk old new (MayBegin disk count old text)
  then_begun mid new text zeroed first = joined disk old mid new (MayBegin disk count old text)
      (only_zeroed mid text zeroed) (weaker disk mid new (HasFront [] text) (MayBegin disk count old text)
      first
      (λ c has. inr has))

-- a file of zeros alone can take a piece
module _ {D : Type 0} (disk : Disk D) (device : D) (count : ℕ) (file : FilledFile D) (is_device :
    file.device ≡
    device) (is_end : file.end ≡ 0) (is_filled : file.filled ≡ count) where
  pub is_empty : IsZeroed disk count device → IsFilled disk file
  is_empty is =
      let seen : disk.seen file.device ≡ disk.seen device = ap disk.seen is_device in
      let none : before_zero (disk.seen file.device) ≡ [] = ap before_zero seen ∙ none_before
      (disk.seen device)
      (is.blank 0 (omega arith)) in record {
        end = is_end ∙ ap length (sym none);
        filled = is_filled ∙ is.size ∙ ap length (sym seen);
        blank = λ i past. subst (λ (d : D). IsBlankFrom 0 (disk.seen d)) (sym is_device) is.blank i
            (omega arith);
        durable = subst (λ (d : D). Only (disk.seen d) (disk.may_leave d)) (sym is_device) is.durable;
      }

  pub empty_ready : (zeros : List ℕ) → file.zeros.items ≡ zeros → zeros ≡ replicate (length zeros) 0
      → length zeros ≡ ahead → 0 < count → WhereTold disk device (IsZeroed disk count device)
      → TakesPieces disk file
  empty_ready zeros are blank size some is = record {
    zeros = are ∙ blank ∙ ap (λ (l : List ℕ). replicate (length l) 0) (sym are);
    size = ap length are ∙ size;
    behind = omega (arith, is_end, is_filled, some);
    filled = λ told. is_empty (is (ap disk.tells (sym is_device) ∙ told));
  }
