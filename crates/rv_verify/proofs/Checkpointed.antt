-- The lines of a checkpoint that were read so far.
use Rattle.std.proofs.Common.{◌≡◌, ◌∷◌, ◌++◌, ◌∙◌, ℕ, List, [], Option, Some, ap, append_assoc, append-nil}
use Rattle.std.proofs.Common.{refl, subst, sym}
use Rattle.rv_account.specs.state.State.{State}
use Rattle.rv_book.specs.lines.Lines.{lines}
use Rattle.rv_book.proofs.OfLines.Cutting.{lines_cut}
use Rattle.rv_checkpoint.specs.Reading.{GoesOnBy, HasBeenTold, SaysState, StopsAtNext}
use Rattle.rv_checkpoint.specs.declared.reader.CheckpointReader.{CheckpointReader}
use Rattle.rv_verify.specs.Reading.{HasNextPart}
use Rattle.rv_verify.specs.declared.parts.NextPart.TheVariants as next
use Rattle.rv_verify.proofs.Joining.{last_line}

-- the lines before the rest were taken
pub record TakenSo (bytes : List ℕ) (reader : CheckpointReader) (left : Option (List ℕ)) : Type 0 where
  pub texts : List (List ℕ)
  pub rest : List ℕ
  pub is_left : left ≡ Some rest
  pub parts : lines bytes ≡ texts ++ lines rest
  pub told : HasBeenTold texts reader

pub so_none : (bytes : List ℕ) (reader : CheckpointReader) (left : Option (List ℕ)) → HasBeenTold [] reader
    → left ≡ Some bytes → TakenSo bytes reader left
so_none bytes reader left none is =
    record { texts = []; rest = bytes; is_left = is; parts = refl; told = none }

module _ {bytes : List ℕ} {reader : CheckpointReader} {left : Option (List ℕ)}
    (taken : TakenSo bytes reader left) {line : List ℕ} {left' : Option (List ℕ)} where
  line_parts : (has : HasNextPart taken.rest left' line next.Line)
      → lines bytes ≡ (taken.texts ++ line ∷ []) ++ lines has.rest
  line_parts has = taken.parts
      ∙ ap (λ l. taken.texts ++ l) (ap lines has.is_next.0 ∙ lines_cut line has.rest has.is_next.1)
      ∙ sym (append_assoc taken.texts (line ∷ []) (lines has.rest))

  piece_parts : HasNextPart taken.rest left' line next.Piece → lines bytes ≡ taken.texts ++ line ∷ []
  piece_parts has =
      let piece = has.is_next.1 in
      taken.parts
      ∙ ap (λ l. taken.texts ++ l) (ap lines has.is_next.0 ∙ last_line line piece.some piece.no_lf)

  pub so_line : (later : CheckpointReader) → HasNextPart taken.rest left' line next.Line
      → GoesOnBy reader line later → TakenSo bytes later left'
  so_line later has goes = record {
    texts = taken.texts ++ line ∷ [];
    rest = has.rest;
    is_left = has.is_left;
    parts = line_parts has;
    told = goes taken.texts taken.told;
  }

  pub so_stopped : (s : State) → HasNextPart taken.rest left' line next.Line → StopsAtNext reader line
      → SaysState (lines bytes) s → ⊥
  so_stopped s has stops says = stops taken.texts taken.told (lines has.rest) s
      (subst (λ (l : List (List ℕ)). SaysState l s) (line_parts has) says)

  -- a last piece is a line like any other
  pub so_piece : (later : CheckpointReader) → HasNextPart taken.rest left' line next.Piece
      → GoesOnBy reader line later → HasBeenTold (lines bytes) later
  so_piece later has goes = subst (λ (l : List (List ℕ)). HasBeenTold l later) (sym (piece_parts has))
      (goes taken.texts taken.told)

  pub so_torn : (s : State) → HasNextPart taken.rest left' line next.Piece → StopsAtNext reader line
      → SaysState (lines bytes) s → ⊥
  so_torn s has stops says = stops taken.texts taken.told [] s
      (subst (λ (l : List (List ℕ)). SaysState l s)
      (piece_parts has ∙ sym (append-nil (taken.texts ++ line ∷ []))) says)

  pub so_end : HasNextPart taken.rest left' line next.End → HasBeenTold (lines bytes) reader
  so_end has = subst (λ (l : List (List ℕ)). HasBeenTold l reader)
      (sym (taken.parts ∙ ap (λ l. taken.texts ++ lines l) has.is_next.0 ∙ append-nil taken.texts))
      taken.told
