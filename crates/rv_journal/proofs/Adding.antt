-- What a piece leaves that is written over stored zeros, and stored.
use Rattle.std.proofs.Common.{◌≡◌, ℕ, ◌+◌, ◌<◌, List, ◌++◌, length, take, sym, ◌∙◌, ap, subst, arith}
use Rattle.std.proofs.Common.{length-append}
use Rattle.std.specs.List.{All}
use Rattle.std.specs.Prelude.{IsTrue}
use Rattle.std.proofs.lemmas.List.{append-nil}
use Rattle.rv_journal.specs.Device.{Disk, IsRewritten, LeavesOnly, MayMix, Mixed, Only, Rewrites, WhereTold}
use Rattle.rv_journal.specs.Text.{before_zero, HasFront, IsBlankFrom}
use Rattle.rv_journal.specs.Filled.{AddsPiece, IsFilled, TakesPieces, file_text}
use Rattle.rv_journal.specs.declared.filled.FilledFile.{FilledFile}
use Rattle.rv_journal.proofs.Texts.{front}
use Rattle.rv_journal.proofs.Moments.{started, weaker}
use Rattle.rv_journal.proofs.Appended.{mixed_front, kept_before, length-stored, blank_behind, stored, taken}

pub text_is : {D : Type 0} (disk : Disk D) (file : FilledFile D) → IsFilled disk file
    → before_zero (disk.seen file.device) ≡ file_text disk file
text_is disk file is = sym (ap (λ (n : ℕ). take n (disk.seen file.device)) is.end
    ∙ front (disk.seen file.device))

-- of a file at rest, a crash leaves its text
pub at_rest : {D : Type 0} (disk : Disk D) (file : FilledFile D) (piece : List ℕ) → IsFilled disk file
    → LeavesOnly disk file.device file.device (HasFront (file_text disk file) piece)
at_rest disk file piece is =
    started disk file.device (HasFront (file_text disk file) piece)
    (λ c left. (
      0,
      ap before_zero (is.durable c left) ∙ text_is disk file is
          ∙ sym (append-nil (file_text disk file)),
    ))

module _ {D : Type 0} (disk : Disk D) (old : FilledFile D) (piece : List ℕ) (is : IsFilled disk old) (text :
    All (λ byte. 0 < byte) piece) (room : old.end + length piece < old.filled) (device : D) where
  fits : old.end + length piece < length (disk.seen old.device)
  fits = omega (arith, is.filled, room)

  has_front : (c : List ℕ) → MayMix disk old.end piece old.device c → HasFront (file_text disk old) piece c
  has_front c (d, left, mixed) =
      let has = mixed_front (disk.seen old.device) piece old.end is.end is.blank text fits c
      (subst (λ (f : List ℕ). Mixed old.end piece f c) (is.durable d left) mixed) in
      (has.0, has.1 ∙ ap (λ (l : List ℕ). l ++ take has.0 piece) (text_is disk old is))

  any_moment : Rewrites disk old.end piece old.device device
      → LeavesOnly disk old.device device (HasFront (file_text disk old) piece)
  any_moment writes = weaker disk old.device device (MayMix disk old.end piece old.device)
      (HasFront (file_text disk old) piece) writes.any_moment has_front

  kept : Rewrites disk old.end piece old.device device → IsTrue (disk.tells old.device)
      → take old.end (disk.seen device) ≡ file_text disk old
  kept writes told = kept_before (disk.seen old.device) (disk.seen device) piece old.end old.end (omega arith)
      (omega (arith, fits)) (writes.others told)

  pub text_grows : IsRewritten disk old.end piece old.device device
      → take (old.end + length piece) (disk.seen device) ≡ file_text disk old ++ piece
  text_grows done = taken (disk.seen old.device) piece old.end is.end is.blank text fits (disk.seen device)
      done.holds

  -- the file is filled again, its text longer by the piece
  pub filled_after : (new : FilledFile D) → new.device ≡ device → new.end ≡ old.end + length piece
      → new.filled ≡ old.filled → IsRewritten disk old.end piece old.device device → IsFilled disk new
  filled_after new at end same done =
      let file = disk.seen old.device in
      let seen : disk.seen new.device ≡ disk.seen device = ap disk.seen at in record {
        end = end ∙ omega (
          arith,
          is.end,
          length-append (before_zero file) piece,
          ap length
              (ap before_zero seen ∙ stored file piece old.end is.end is.blank text fits (disk.seen device)
              done.holds),
        );
        filled = omega (
          arith,
          same,
          is.filled,
          ap length seen,
          length-stored file piece old.end is.end
              is.blank text fits (disk.seen device) done.holds,
        );
        blank = subst (λ (n : ℕ). IsBlankFrom n (disk.seen new.device)) (sym end)
            (subst (IsBlankFrom (old.end + length piece)) (sym seen) (blank_behind file piece old.end is.end
            is.blank text fits (disk.seen device) done.holds));
        durable = subst (λ (d : D). Only (disk.seen d) (disk.may_leave d)) (sym at) done.durable;
      }

-- whether or not the writing ended well
pub adds_piece : {D : Type 0} (disk : Disk D) (old new : FilledFile D) (piece : List ℕ) → TakesPieces disk old
    → All (λ byte. 0 < byte) piece → old.end + length piece < old.filled
    → Rewrites disk old.end piece old.device new.device → AddsPiece disk piece old new
adds_piece disk old new piece ready text room writes = record {
  tells = writes.tells;
  any_moment = λ told. any_moment disk old piece (ready.filled told) text room new.device writes;
}

pub keeps_front : {D : Type 0} (disk : Disk D) (old : FilledFile D) (device : D) (piece : List ℕ)
    → TakesPieces disk old
    → All (λ byte. 0 < byte) piece → old.end + length piece < old.filled
    → Rewrites disk old.end piece old.device device
    → WhereTold disk old.device (take old.end (disk.seen device) ≡ file_text disk old)
keeps_front disk old device piece ready text room writes told =
    kept disk old piece (ready.filled told) text room device writes told
