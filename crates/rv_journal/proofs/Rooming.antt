-- A file that is filled again and again goes on with its text.
use Rattle.std.proofs.Common.{◌≡◌, ℕ, zero, suc, List, [], ◌++◌, take, refl, sym, ◌∙◌, ap, subst}
use Rattle.std.specs.Prelude.{IsTrue}
use Rattle.rv_journal.specs.Device.{Disk, LeavesOnly}
use Rattle.rv_journal.specs.Text.{HasFront}
use Rattle.rv_journal.specs.Filled.{AddsPiece, OnlyFills, KeepsFront, TakesPieces, file_text}
use Rattle.rv_journal.specs.declared.filled.FilledFile.{FilledFile}
use Rattle.rv_journal.proofs.Moments.{joined, weaker}
use Rattle.rv_journal.proofs.Adding.{at_rest}

pub begun : {D : Type 0} (disk : Disk D) (file : FilledFile D) → TakesPieces disk file
    → OnlyFills disk file file
begun disk file ready = record {
  end = refl;
  front = λ told. refl;
  adds = record { tells = refl; any_moment = λ told. at_rest disk file [] (ready.filled told) };
}

-- the text is the same
pub same_text : {D : Type 0} (disk : Disk D) (start now : FilledFile D) → OnlyFills disk start now
    → IsTrue (disk.tells start.device) → file_text disk now ≡ file_text disk start
same_text disk start now on told = ap (λ (n : ℕ). take n (disk.seen now.device)) on.end ∙ on.front told

-- a call that adds a piece after them adds it to what there was
pub adds_on : {D : Type 0} (disk : Disk D) (start mid new : FilledFile D) (piece : List ℕ)
    → OnlyFills disk start mid
    → ((c : List ℕ) → HasFront (file_text disk start) [] c → HasFront (file_text disk start) piece c)
    → AddsPiece disk piece mid new → AddsPiece disk piece start new
adds_on disk start mid new piece on more adds = record {
  tells = adds.tells ∙ on.adds.tells;
  any_moment = λ told.
      let later = adds.any_moment (on.adds.tells ∙ told) in
      let first : LeavesOnly disk start.device mid.device (HasFront (file_text disk start) piece) =
      weaker disk start.device mid.device (HasFront (file_text disk start) [])
      (HasFront (file_text disk start) piece) (on.adds.any_moment told) more in
      joined disk start.device mid.device new.device (HasFront (file_text disk start) piece) first
      (subst (λ (text : List ℕ). LeavesOnly disk mid.device new.device (HasFront text piece))
      (same_text disk start mid on told) later);
}

pub front_on : {D : Type 0} (disk : Disk D) (start mid new : FilledFile D) → OnlyFills disk start mid
    → KeepsFront disk mid new → KeepsFront disk start new
front_on disk start mid new on front told =
    ap (λ (n : ℕ). take n (disk.seen new.device)) (sym on.end) ∙ front (on.adds.tells ∙ told) ∙ same_text disk
    start mid on told

pub goes_further : {D : Type 0} (disk : Disk D) (start mid new : FilledFile D) → OnlyFills disk start mid
    → OnlyFills disk mid new → OnlyFills disk start new
goes_further disk start mid new on later = record {
  end = later.end ∙ on.end;
  front = front_on disk start mid new on later.front;
  adds = adds_on disk start mid new [] on (λ c has. has) later.adds;
}

-- a front of no piece is one of any
pub any_piece : (text piece file : List ℕ) → HasFront text [] file → HasFront text piece file
any_piece text piece file has = (0, has.1 ∙ ap (λ (l : List ℕ). text ++ l) (none has.0))
  where
    none : (n : ℕ) → take n [] ≡ take 0 piece
    none zero = refl
    none (suc n) = refl

pub stored_on : {D : Type 0} (disk : Disk D) (start mid new : FilledFile D) (piece : List ℕ)
    → OnlyFills disk start mid
    → (IsTrue (disk.tells mid.device) → file_text disk new ≡ file_text disk mid ++ piece)
    → IsTrue (disk.tells start.device) → file_text disk new ≡ file_text disk start ++ piece
stored_on disk start mid new piece on stored told =
    stored (on.adds.tells ∙ told) ∙ ap (λ (l : List ℕ). l ++ piece) (same_text disk start mid on told)
