-- Lines and one more, each with its LF.
use Rattle.std.proofs.Common.{◌≡◌, ◌++◌, ◌∷◌, ◌∙◌, ℕ, List, [], ap, append_assoc, refl, sym}
use Rattle.rv_book.specs.lines.Lines.{printed_lines}

pub printed_more : (texts : List (List ℕ)) (text : List ℕ)
    → printed_lines (texts ++ text ∷ []) ≡ printed_lines texts ++ (text ++ 10 ∷ [])
printed_more [] text = refl
printed_more (first ∷ texts) text = ap (λ (l : List ℕ). first ++ 10 ∷ l) (printed_more texts text)
    ∙ sym (append_assoc first (10 ∷ printed_lines texts) (text ++ 10 ∷ []))
