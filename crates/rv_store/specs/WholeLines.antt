-- The lines of a journal are whole lines, and so nothing is left after them.
use Rattle.std.proofs.Common.{◌≡◌, ◌≢◌, ◌++◌, ◌∷◌, ◌∙◌, ℕ, List, [], Bool, true, false, cond}
use Rattle.std.proofs.Common.{ap, arith, inl, inr, length, length-append, refl, subst, suc, sym}
use Rattle.std.proofs.lemmas.Bool.{cases_Bool}
use Rattle.std.proofs.lemmas.Bool.Decides.{nat_tests}
use Rattle.std.specs.List.{All, list_any}
use Rattle.std.specs.Prelude.{◌==◌, ◌||◌}
use Rattle.rv_journal.specs.Text.{IsLines, whole_lines}
use Rattle.rv_book.specs.lines.Lines.{lines}
use Rattle.rv_verify.specs.Ends.{AreWholeLines}
use Rattle.rv_verify.proofs.Joining.{lines_more}

abbrev has_lf : List ℕ → Bool
has_lf text = list_any (λ b. b == 10) text

with_lf : (b : ℕ) (rest : List ℕ) → has_lf (b ∷ rest) ≡ true → whole_lines (b ∷ rest) ≡ b ∷ whole_lines rest
with_lf b rest is = ap (λ (t : Bool). cond t (b ∷ whole_lines rest) []) is

without_lf : (b : ℕ) (rest : List ℕ) → has_lf (b ∷ rest) ≡ false → whole_lines (b ∷ rest) ≡ []
without_lf b rest is = ap (λ (t : Bool). cond t (b ∷ whole_lines rest) []) is

none_lf : (text : List ℕ) → whole_lines text ≡ [] → has_lf text ≡ false
none_lf [] none = refl
none_lf (b ∷ rest) none = elim (cases_Bool (has_lf (b ∷ rest))) [
  | inl is ↦ absurd (omega (arith, ap length (sym (with_lf b rest is) ∙ none)))
  | inr is ↦ is
]

left_true : (p q : Bool) → (p || q) ≡ true → q ≡ false → p ≡ true
left_true true q is none = refl
left_true false q is none = sym none ∙ is

ten : (b : ℕ) → (b == 10) ≡ true → b ≡ 10
ten b is = grind (arith, nat_tests, is)

first_lf : (b : ℕ) (rest : List ℕ) → has_lf (b ∷ rest) ≡ true → has_lf rest ≡ false → b ≡ 10
first_lf b rest is none = ten b (left_true (b == 10) (has_lf rest) is none)

whole_end : (text : List ℕ) → AreWholeLines (whole_lines text)
whole_end [] = inl refl
whole_end (b ∷ rest) = elim (cases_Bool (has_lf (b ∷ rest))) [
  | inl is ↦ elim (whole_end rest) [
    | inl none ↦ inr (
      [],
      with_lf b rest is ∙ ap (λ (l : List ℕ). b ∷ l) none
          ∙ ap (λ (x : ℕ). x ∷ []) (first_lf b rest is (none_lf rest none)),
    )
    | inr some ↦ inr (b ∷ some.0, with_lf b rest is ∙ ap (λ (l : List ℕ). b ∷ l) some.1)
  ]
  | inr is ↦ inl (without_lf b rest is)
]

-- a journal's lines are whole
pub whole : (text : List ℕ) → IsLines text → AreWholeLines text
whole text is = subst AreWholeLines is (whole_end text)

-- what follows them has its own lines
pub lines_on : (text more : List ℕ) → IsLines text → lines (text ++ more) ≡ lines text ++ lines more
lines_on text more is = lines_more text more (whole text is)

ends_lf : (front : List ℕ) → All (λ byte. byte ≢ 10) (front ++ 10 ∷ []) → ⊥
ends_lf [] lacks = lacks 0 0 (omega arith) refl
ends_lf (x ∷ front) lacks = ends_lf front (λ k d low. lacks (suc k) d (omega (arith, low)))

drop_first : (x y : ℕ) (xs ys : List ℕ) → x ∷ xs ≡ y ∷ ys → xs ≡ ys
drop_first x y xs ys same = ap (λ (l : List ℕ). elim l [ [] ↦ [] | (z ∷ zs) ↦ zs ]) same

none_after : (more rest front : List ℕ) → more ++ rest ≡ front ++ 10 ∷ [] → All (λ byte. byte ≢ 10) rest
    → rest ≡ []
none_after [] rest front same lacks =
    absurd (ends_lf front (subst (λ (l : List ℕ). All (λ byte. byte ≢ 10) l) same lacks))
none_after (m ∷ more) [] front same lacks = refl
none_after (m ∷ more) (x ∷ rest) [] same lacks =
    absurd (omega (arith, ap length same, length-append more (x ∷ rest)))
none_after (m ∷ more) (x ∷ rest) (f ∷ front) same lacks =
    none_after more (x ∷ rest) front (drop_first m f (more ++ x ∷ rest) (front ++ 10 ∷ []) same) lacks

-- what follows other bytes in whole lines
pub rest_lines : (text more : List ℕ) → IsLines (text ++ more) → IsLines more
rest_lines [] more is = is
rest_lines (b ∷ text) more is = elim (cases_Bool (has_lf (b ∷ text ++ more))) [
  | inl has ↦ rest_lines text more (drop_first b b (whole_lines (text ++ more)) (text ++ more)
      (sym (with_lf b (text ++ more) has) ∙ is))
  | inr none ↦ absurd (omega (arith, ap length (sym (without_lf b (text ++ more) none) ∙ is)))
]

-- no piece without LF is left of whole lines
pub none_left : (text more rest : List ℕ) → IsLines text → text ≡ more ++ rest
    → All (λ byte. byte ≢ 10) rest → rest ≡ []
none_left text more [] is same lacks = refl
none_left text more (x ∷ rest) is same lacks = elim (whole text is) [
  | inl none ↦ absurd (omega (arith, ap length (sym same ∙ none), length-append more (x ∷ rest)))
  | inr some ↦ none_after more (x ∷ rest) some.0 (sym same ∙ some.1) lacks
]
