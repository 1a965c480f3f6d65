-- A file that was cleared after its lines can take a piece.
use Rattle.std.proofs.Common.{◌≡◌, ℕ, ◌<◌, List, replicate, length, sym, ◌∙◌, ap, subst, arith}
use Rattle.rv_journal.specs.Device.{Disk, Only, WhereTold}
use Rattle.rv_journal.specs.Filled.{IsFilled, TakesPieces, ahead, file_text}
use Rattle.rv_journal.specs.Opened.{IsCleared}
use Rattle.rv_journal.specs.Text.{before_zero, IsBlankFrom}
use Rattle.rv_journal.specs.declared.filled.FilledFile.{FilledFile}
use Rattle.rv_journal.proofs.Adding.{text_is}

module _ {D : Type 0} (disk : Disk D) (device : D) (lines : List ℕ) (filled : ℕ) (file : FilledFile D)
    (is_device : file.device ≡ device) (is_filled : file.filled ≡ filled)
  where
    pub is_whole : file.end ≡ length lines → IsCleared disk lines filled device → IsFilled disk file
    is_whole is_end cleared =
        let seen : disk.seen file.device ≡ disk.seen device = ap disk.seen is_device in record {
          end = is_end ∙ ap length (sym (ap before_zero seen ∙ cleared.text));
          filled = is_filled ∙ cleared.filled ∙ ap length (sym seen);
          blank = subst (λ (n : ℕ). IsBlankFrom n (disk.seen file.device)) (sym is_end)
              (subst (λ (d : D). IsBlankFrom (length lines) (disk.seen d)) (sym is_device) cleared.blank);
          durable = subst (λ (d : D). Only (disk.seen d) (disk.may_leave d)) (sym is_device) cleared.durable;
        }

    pub is_ready : file.end < filled → (zeros : List ℕ) → file.zeros.items ≡ zeros
        → zeros ≡ replicate (length zeros) 0 → length zeros ≡ ahead
        → WhereTold disk device (file.end ≡ length lines)
        → WhereTold disk device (IsCleared disk lines filled device) → TakesPieces disk file
    is_ready room zeros are blank size end cleared = record {
      zeros = are ∙ blank ∙ ap (λ (l : List ℕ). replicate (length l) 0) (sym are);
      size = ap length are ∙ size;
      behind = omega (arith, is_filled, room);
      filled = λ told_last.
          let told = ap disk.tells (sym is_device) ∙ told_last in is_whole (end told) (cleared told);
    }

    pub text_lines : file.end ≡ length lines → IsCleared disk lines filled device
        → file_text disk file ≡ lines
    text_lines is_end cleared = sym (text_is disk file (is_whole is_end cleared))
        ∙ ap (λ (d : D). before_zero (disk.seen d))
        is_device ∙ cleared.text
