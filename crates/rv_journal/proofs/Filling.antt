-- What zeros leave that are written at a filled file's end, and stored.
use Rattle.std.proofs.Common.{◌≡◌, ℕ, ◌+◌, ◌<◌, List, [], replicate, length, take, sym, ◌∙◌, ap, subst, arith}
use Rattle.std.specs.Prelude.{IsTrue}
use Rattle.std.proofs.lemmas.List.{append-nil}
use Rattle.rv_journal.specs.Device.{Disk, Holds, IsRewritten, LeavesOnly, MayMix, Mixed, Only, Rewrites}
use Rattle.rv_journal.specs.Text.{before_zero, HasFront, IsBlankFrom}
use Rattle.rv_journal.specs.Filled.{IsFilled, OnlyFills, TakesPieces, file_text}
use Rattle.rv_journal.specs.declared.filled.FilledFile.{FilledFile}
use Rattle.rv_journal.proofs.Moments.{weaker}
use Rattle.rv_journal.proofs.Adding.{text_is}
use Rattle.rv_journal.proofs.Appended.{kept_before}
use Rattle.rv_journal.proofs.Zeros.{mixed_text, length_new, text_new, blank_new}

module _ {D : Type 0} (disk : Disk D) (old : FilledFile D) (is : IsFilled disk old) (behind :
    old.end < old.filled) (zeros : List ℕ) (are : zeros ≡ replicate (length zeros) 0) (device : D) where
  inside : old.end < length (disk.seen old.device)
  inside = omega (arith, is.filled, behind)

  has_text : (c : List ℕ) → MayMix disk old.filled zeros old.device c → HasFront (file_text disk old) [] c
  has_text c (d, left, mixed) =
      let at_end = subst (λ (n : ℕ). Mixed n zeros (disk.seen old.device) c) is.filled
      (subst (λ (f : List ℕ). Mixed old.filled zeros f c) (is.durable d left) mixed) in (
        0,
        mixed_text (disk.seen old.device) zeros old.end (length zeros) is.end inside is.blank are c at_end
            ∙ text_is disk old is ∙ sym (append-nil (file_text disk old)),
      )

  any_moment : Rewrites disk old.filled zeros old.device device
      → LeavesOnly disk old.device device (HasFront (file_text disk old) [])
  any_moment writes = weaker disk old.device device (MayMix disk old.filled zeros old.device)
      (HasFront (file_text disk old) []) writes.any_moment has_text

  kept : Rewrites disk old.filled zeros old.device device → IsTrue (disk.tells old.device)
      → take old.end (disk.seen device) ≡ file_text disk old
  kept writes told = kept_before (disk.seen old.device) (disk.seen device) zeros old.end old.filled
      (omega (arith, behind)) (omega (arith, inside)) (writes.others told)

  -- the file is filled again, with more zeros
  pub filled_after : (new : FilledFile D) → new.device ≡ device → new.end ≡ old.end
      → new.filled ≡ old.filled + length zeros → IsRewritten disk old.filled zeros old.device device
      → IsFilled disk new
  filled_after new at end more done =
      let file = disk.seen old.device in
      let seen : disk.seen new.device ≡ disk.seen device = ap disk.seen at in
      let at_end = subst (λ (n : ℕ). Holds file n zeros (disk.seen device)) is.filled done.holds in
      let text = text_new file zeros old.end (length zeros) is.end inside is.blank are (disk.seen device)
      at_end in record {
        end = end ∙ is.end ∙ ap length (sym (ap before_zero seen ∙ text));
        filled = omega (
          arith,
          more,
          is.filled,
          ap length seen,
          length_new file zeros old.end (length zeros)
              is.end inside is.blank are (disk.seen device) at_end,
        );
        blank = subst (λ (n : ℕ). IsBlankFrom n (disk.seen new.device)) (sym end) (subst (IsBlankFrom old.end)
            (sym seen) (blank_new file zeros old.end (length zeros) is.end inside is.blank are
            (disk.seen device) at_end));
        durable = subst (λ (d : D). Only (disk.seen d) (disk.may_leave d)) (sym at) done.durable;
      }

-- whether or not the writing ended well
pub only_filled : {D : Type 0} (disk : Disk D) (old new : FilledFile D) → TakesPieces disk old
    → (zeros : List ℕ) → zeros ≡ replicate (length zeros) 0 → new.end ≡ old.end
    → Rewrites disk old.filled zeros old.device new.device → OnlyFills disk old new
only_filled disk old new ready zeros are end writes = record {
  end = end;
  front = λ told. kept disk old (ready.filled told) ready.behind zeros are new.device writes told;
  adds = record {
    tells = writes.tells;
    any_moment = λ told. any_moment disk old (ready.filled told) ready.behind zeros are new.device writes;
  };
}
