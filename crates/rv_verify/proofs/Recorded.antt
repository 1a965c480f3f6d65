-- The record that the lines of an input are, line by line.
use Rattle.std.proofs.Common.{◌≡◌, ◌∷◌, ◌++◌, ◌∙◌, ℕ, List, [], Option, Some, ap, append_assoc, append-nil}
use Rattle.std.proofs.Common.{refl}
use Rattle.std.proofs.Common.{subst, sym}
use Rattle.std.specs.List.{AllZip}
use Rattle.rv_book.specs.lines.Lines.{lines}
use Rattle.rv_book.proofs.OfLines.Cutting.{lines_cut}
use Rattle.rv_replies.specs.Standing.{AddsLine, IsRecordLine}
use Rattle.rv_replies.specs.declared.records.Line.{Line}
use Rattle.rv_replies.specs.declared.records.Records.{Records}
use Rattle.rv_verify.specs.Reading.{HasNextPart}
use Rattle.rv_verify.specs.declared.parts.NextPart.TheVariants as next
use Rattle.rv_verify.proofs.Joining.{last_line}

zip_push : (texts : List (List ℕ)) (ls : List Line) (text : List ℕ) (l : Line) → AllZip IsRecordLine texts ls
    → IsRecordLine text l → AllZip IsRecordLine (texts ++ text ∷ []) (ls ++ l ∷ [])
zip_push [] [] text l zip is = (is, tt)
zip_push [] (k ∷ ls) text l zip is = absurd zip
zip_push (t ∷ texts) [] text l zip is = absurd zip
zip_push (t ∷ texts) (k ∷ ls) text l zip is = (zip.0, zip_push texts ls text l zip.1 is)

-- the lines before the rest are those of the record
pub record Taken (bytes : List ℕ) (r : Records) (left : Option (List ℕ)) : Type 0 where
  pub texts : List (List ℕ)
  pub rest : List ℕ
  pub is_left : left ≡ Some rest
  pub parts : lines bytes ≡ texts ++ lines rest
  pub zip : AllZip IsRecordLine texts r.lines.items

pub taken_none : (bytes : List ℕ) (r : Records) (left : Option (List ℕ)) → r.lines.items ≡ []
    → left ≡ Some bytes → Taken bytes r left
taken_none bytes r left none is = record {
  texts = [];
  rest = bytes;
  is_left = is;
  parts = refl;
  zip = subst (AllZip IsRecordLine []) (sym none) tt;
}

module _ {bytes : List ℕ} {r : Records} {left : Option (List ℕ)} (taken : Taken bytes r left)
    {line : List ℕ} where
  more : (r' : Records) → AddsLine r r' line → AllZip IsRecordLine (taken.texts ++ line ∷ []) r'.lines.items
  more r' adds = subst (AllZip IsRecordLine (taken.texts ++ line ∷ [])) (sym adds.lines)
      (zip_push taken.texts r.lines.items line adds.line taken.zip adds.is)

  module _ {left' : Option (List ℕ)} where
    pub taken_line : (r' : Records) → HasNextPart taken.rest left' line next.Line → AddsLine r r' line
        → Taken bytes r' left'
    taken_line r' has adds = record {
      texts = taken.texts ++ line ∷ [];
      rest = has.rest;
      is_left = has.is_left;
      parts = taken.parts
          ∙ ap (λ l. taken.texts ++ l) (ap lines has.is_next.0 ∙ lines_cut line has.rest has.is_next.1)
          ∙ sym (append_assoc taken.texts (line ∷ []) (lines has.rest));
      zip = more r' adds;
    }

    -- a last piece is a line like any other
    pub taken_piece : (r' : Records) → HasNextPart taken.rest left' line next.Piece → AddsLine r r' line
        → AllZip IsRecordLine (lines bytes) r'.lines.items
    taken_piece r' has adds =
        let piece = has.is_next.1 in
        let parts : lines bytes ≡ taken.texts ++ line ∷ [] =
        taken.parts
        ∙ ap (λ l. taken.texts ++ l) (ap lines has.is_next.0 ∙ last_line line piece.some piece.no_lf) in
        subst (λ ls. AllZip IsRecordLine ls r'.lines.items) (sym parts) (more r' adds)

    pub taken_end : HasNextPart taken.rest left' line next.End
        → AllZip IsRecordLine (lines bytes) r.lines.items
    taken_end has = subst (λ ls. AllZip IsRecordLine ls r.lines.items)
        (sym (taken.parts ∙ ap (λ l. taken.texts ++ lines l) has.is_next.0 ∙ append-nil taken.texts))
        taken.zip
