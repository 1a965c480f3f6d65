-- The lines of whole lines and of what follows them.
use Rattle.std.proofs.Common.{◌≡◌, ◌≢◌, ◌∷◌, ◌++◌, ◌∙◌, ◌==◌, ℕ, List, [], cond, true, false}
use Rattle.std.proofs.Common.{append-nil, append_assoc, ap, inl, inr, refl, subst, sym}
use Rattle.std.specs.List.{onto_first}
use Rattle.rv_book.specs.lines.Lines.{lines}
use Rattle.rv_book.proofs.OfLines.Cutting.{Lacks, lines_cut, lines_last}
use Rattle.rv_verify.specs.Ends.{AreWholeLines}
use Rattle.rv_verify.specs.Reading.{IsPiece}

onto_append : (x : ℕ) (ls ms : List (List ℕ)) → ls ≢ [] → onto_first x (ls ++ ms) ≡ onto_first x ls ++ ms
onto_append x [] ms some = absurd (some refl)
onto_append x (l ∷ ls) ms some = refl

cons_some : (l : List ℕ) (ls : List (List ℕ)) → l ∷ ls ≢ []
cons_some l ls same = cc

onto_some : (x : ℕ) (ls : List (List ℕ)) → onto_first x ls ≢ []
onto_some x [] = cons_some (x ∷ []) []
onto_some x (l ∷ ls) = cons_some (x ∷ l) ls

lines_some : (front rest : List ℕ) → lines (front ++ 10 ∷ rest) ≢ []
lines_some [] rest = cons_some [] (lines rest)
lines_some (x ∷ front) rest =
    elim (x == 10) as (λ b. cond b ([] ∷ lines (front ++ 10 ∷ rest))
    (onto_first x (lines (front ++ 10 ∷ rest)))
    ≢ []) [
      | true ↦ cons_some [] (lines (front ++ 10 ∷ rest))
      | false ↦ onto_some x (lines (front ++ 10 ∷ rest))
    ]

lines_behind : (front rest : List ℕ) → lines (front ++ 10 ∷ rest) ≡ lines (front ++ 10 ∷ []) ++ lines rest
lines_behind [] rest = refl
lines_behind (x ∷ front) rest =
    let last = lines (front ++ 10 ∷ []) in
    let behind : lines (front ++ 10 ∷ rest) ≡ last ++ lines rest = lines_behind front rest in
    ap (λ (ls : List (List ℕ)). cond (x == 10) ([] ∷ ls) (onto_first x ls)) behind
    ∙ elim (x == 10) as (λ b. cond b ([] ∷ (last ++ lines rest)) (onto_first x (last ++ lines rest))
    ≡ cond b ([] ∷ last) (onto_first x last) ++ lines rest) [
      | true ↦ refl
      | false ↦ onto_append x last (lines rest) (lines_some front [])
    ]

-- the lines of whole lines and of what follows
pub lines_more : (whole rest : List ℕ) → AreWholeLines whole
    → lines (whole ++ rest) ≡ lines whole ++ lines rest
lines_more whole rest (inl none) = subst (λ w. lines (w ++ rest) ≡ lines w ++ lines rest) (sym none) refl
lines_more whole rest (inr some) =
    subst (λ w. lines (w ++ rest) ≡ lines w ++ lines rest) (sym some.1)
    (ap lines (append_assoc some.0 (10 ∷ []) rest) ∙ lines_behind some.0 rest)

module _ (whole : List ℕ) (are : AreWholeLines whole) (line : List ℕ) (lacks : Lacks 10 line) where
  pub whole_more : AreWholeLines (whole ++ (line ++ 10 ∷ []))
  whole_more = inr (whole ++ line, sym (append_assoc whole line (10 ∷ [])))

  -- one line more
  pub line_more : lines (whole ++ (line ++ 10 ∷ [])) ≡ lines whole ++ line ∷ []
  line_more = lines_more whole (line ++ 10 ∷ []) are ∙ ap (λ l. lines whole ++ l) (lines_cut line [] lacks)

-- whole lines and whole lines
pub whole_append : (front more : List ℕ) → AreWholeLines front → AreWholeLines more
    → AreWholeLines (front ++ more)
whole_append front more are (inl none) =
    subst (λ (l : List ℕ). AreWholeLines (front ++ l)) (sym none)
    (subst AreWholeLines (sym (append-nil front)) are)
whole_append front more are (inr some) =
    inr (front ++ some.0, ap (λ l. front ++ l) some.1 ∙ sym (append_assoc front some.0 (10 ∷ [])))

pub last_line : (piece : List ℕ) → piece ≢ [] → Lacks 10 piece → lines piece ≡ piece ∷ []
last_line [] some lacks = absurd (some refl)
last_line (x ∷ xs) some lacks = lines_last x xs lacks

-- or a last piece
pub piece_more : (whole piece : List ℕ) → AreWholeLines whole → IsPiece piece
    → lines (whole ++ piece) ≡ lines whole ++ piece ∷ []
piece_more whole piece are is =
    lines_more whole piece are ∙ ap (λ l. lines whole ++ l) (last_line piece is.some is.no_lf)
