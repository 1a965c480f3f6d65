-- What the lines of a text are.
use Rattle.std.proofs.Common.{◌≡◌, ◌≢◌, inl, inr, ℕ, zero, suc, Bool, true, false, cond, List, [], ◌∷◌, ◌++◌}
use Rattle.std.proofs.Common.{length, take, drop, refl, sym, ◌∙◌, ap, arith, append_assoc, ◌<◌}
use Rattle.std.proofs.lemmas.List.{append-nil}
use Rattle.std.specs.Prelude.{◌==◌, ◌||◌}
use Rattle.std.specs.List.{list_any}
use Rattle.std.proofs.lemmas.Bool.{cases_Bool}
use Rattle.std.proofs.lemmas.Bool.Decides.{nat_tests}
use Rattle.rv_journal.specs.Text.{whole_lines, IsLines}

abbrev pub has_lf : List ℕ → Bool
has_lf text = list_any (λ b. b == 10) text

with_lf : (b : ℕ) (rest : List ℕ) → has_lf (b ∷ rest) ≡ true → whole_lines (b ∷ rest) ≡ b ∷ whole_lines rest
with_lf b rest is = ap (λ (t : Bool). cond t (b ∷ whole_lines rest) []) is

without_lf : (b : ℕ) (rest : List ℕ) → has_lf (b ∷ rest) ≡ false → whole_lines (b ∷ rest) ≡ []
without_lf b rest is = ap (λ (t : Bool). cond t (b ∷ whole_lines rest) []) is

has_lf-append : (xs ys : List ℕ) → has_lf (xs ++ ys) ≡ (has_lf xs || has_lf ys)
has_lf-append [] ys = refl
has_lf-append (x ∷ xs) ys = grind (arith, has_lf-append xs ys)

pub none : (text : List ℕ) → has_lf text ≡ false → whole_lines text ≡ []
none [] is = refl
none (b ∷ rest) is = without_lf b rest is

both_false : (p q : Bool) → p ≡ false → q ≡ false → (p || q) ≡ false
both_false p q ps qs = rw (ps, qs) refl

left_false : (p q : Bool) → (p || q) ≡ false → p ≡ false
left_false true q is = is
left_false false q is = refl

right_false : (p q : Bool) → (p || q) ≡ false → q ≡ false
right_false true q is = absurd (cc)
right_false false q is = is

pub none_taken : (n : ℕ) (text : List ℕ) → has_lf text ≡ false → has_lf (take n text) ≡ false
none_taken zero text is = refl
none_taken (suc n) [] is = refl
none_taken (suc n) (b ∷ text) is = both_false (b == 10) (has_lf (take n text)) (left_false (b == 10)
    (has_lf text) is) (none_taken n text (right_false (b == 10) (has_lf text) is))

-- a text is its lines, and an end without LF
pub record Parts (text : List ℕ) : Type 0 where
  pub end : List ℕ
  pub split : text ≡ whole_lines text ++ end
  pub no_lf : has_lf end ≡ false

pub parts : (text : List ℕ) → Parts text
parts [] = record { end = []; split = refl; no_lf = refl }
parts (b ∷ rest) = elim (cases_Bool (has_lf (b ∷ rest))) [
  | inl is ↦
      let rest_parts = parts rest in
      record {
        end = rest_parts.end;
        split = ap (λ (l : List ℕ). b ∷ l) rest_parts.split ∙ ap (λ (l : List ℕ). l ++ rest_parts.end)
            (sym (with_lf b rest is));
        no_lf = rest_parts.no_lf;
      }
  | inr is ↦ record {
    end = b ∷ rest;
    split = ap (λ (l : List ℕ). l ++ b ∷ rest) (sym (without_lf b rest is));
    no_lf = is;
  }
]

pub has_lf-whole : (text : List ℕ) → has_lf (whole_lines text) ≡ has_lf text
has_lf-whole [] = refl
has_lf-whole (b ∷ rest) = elim (cases_Bool (has_lf (b ∷ rest))) as (λ _. has_lf (whole_lines (b ∷ rest)) ≡
    has_lf (b ∷ rest)) [
      | inl has ↦ ap has_lf (with_lf b rest has) ∙ ap (λ (t : Bool). (b == 10) || t) (has_lf-whole rest)
      | inr has ↦ ap has_lf (without_lf b rest has) ∙ sym has
    ]

or_false : (p q : Bool) → q ≡ false → (p || q) ≡ p
or_false true q is = refl
or_false false q is = is

or_true : (p : Bool) → (p || true) ≡ true
or_true true = refl
or_true false = refl

-- such an end doesn't count
pub whole_lines-behind : (text end : List ℕ) → has_lf end ≡ false
    → whole_lines (whole_lines text ++ end) ≡ whole_lines text
whole_lines-behind [] end is = none end is
whole_lines-behind (b ∷ rest) end is = elim (cases_Bool (has_lf (b ∷ rest))) as
    (λ _. whole_lines (whole_lines (b ∷ rest) ++ end) ≡ whole_lines (b ∷ rest)) [
      | inl has ↦
          let still : has_lf (b ∷ (whole_lines rest ++ end)) ≡ true =
          ap (λ (t : Bool). (b == 10) || t) (has_lf-append (whole_lines rest) end
          ∙ or_false (has_lf (whole_lines rest)) (has_lf end) is ∙ has_lf-whole rest) ∙ has in
          ap (λ (l : List ℕ). whole_lines (l ++ end)) (with_lf b rest has)
          ∙ with_lf b (whole_lines rest ++ end)
          still ∙ ap (λ (l : List ℕ). b ∷ l) (whole_lines-behind rest end is) ∙ sym (with_lf b rest has)
      | inr has ↦ ap (λ (l : List ℕ). whole_lines (l ++ end)) (without_lf b rest has) ∙ none end is
          ∙ sym (without_lf b rest has)
    ]

-- nor do its bytes behind any text
pub whole_lines-none : (text end : List ℕ) → has_lf end ≡ false → whole_lines (text ++ end) ≡ whole_lines text
whole_lines-none text end is =
    let cut = parts text in
    ap (λ (l : List ℕ). whole_lines (l ++ end)) cut.split
    ∙ ap whole_lines (append_assoc (whole_lines text) cut.end end)
    ∙ whole_lines-behind text (cut.end ++ end) (has_lf-append cut.end end
    ∙ both_false (has_lf cut.end) (has_lf end) cut.no_lf is)

pub lines_only : (text : List ℕ) → IsLines (whole_lines text)
lines_only text = ap whole_lines (sym (append-nil (whole_lines text))) ∙ whole_lines-behind text [] refl

some_lf : (lines : List ℕ) → IsLines lines → 0 < length lines → has_lf lines ≡ true
some_lf lines is some = elim (cases_Bool (has_lf lines)) [
  | inl has ↦ has
  | inr has ↦ absurd (omega (arith, some, ap length (sym is ∙ none lines has)))
]

ends_lf : (text lines : List ℕ) → IsLines lines → has_lf lines ≡ true → IsLines (text ++ lines)
ends_lf [] lines is has = is
ends_lf (b ∷ text) lines is has =
    let still : has_lf (b ∷ (text ++ lines)) ≡ true = has_lf-append (b ∷ text) lines
    ∙ ap (λ (t : Bool). has_lf (b ∷ text) || t) has ∙ or_true (has_lf (b ∷ text)) in
    with_lf b (text ++ lines) still ∙ ap (λ (l : List ℕ). b ∷ l) (ends_lf text lines is has)

-- whatever ends by lines is lines
pub lines_end : (text lines : List ℕ) → IsLines lines → 0 < length lines → IsLines (text ++ lines)
lines_end text lines is some = ends_lf text lines is (some_lf lines is some)

pub whole_lines-lf : (text : List ℕ) → whole_lines (text ++ 10 ∷ []) ≡ text ++ 10 ∷ []
whole_lines-lf [] = refl
whole_lines-lf (b ∷ text) = with_lf b (text ++ 10 ∷ []) (ap (λ (t : Bool). (b == 10) || t)
    (has_lf-append text (10 ∷ []) ∙ or_true (has_lf text)) ∙ or_true (b == 10)) ∙ ap (λ (l : List ℕ). b ∷ l)
    (whole_lines-lf text)

none_other : (b : ℕ) → b ≢ 10 → has_lf (b ∷ []) ≡ false
none_other b other = grind (arith, nat_tests)

pub whole_lines-other : (text : List ℕ) (b : ℕ) → b ≢ 10 → whole_lines (text ++ b ∷ []) ≡ whole_lines text
whole_lines-other [] b other = without_lf b [] (none_other b other)
whole_lines-other (x ∷ text) b other =
    let same : has_lf (x ∷ (text ++ b ∷ [])) ≡ has_lf (x ∷ text) =
    ap (λ (t : Bool). (x == 10) || t) (has_lf-append text (b ∷ []) ∙ or_false (has_lf text) (has_lf (b ∷ []))
    (none_other b other)) in
    let rest = whole_lines-other text b other in λ i. cond (same i) (x ∷ rest i) []

-- lines go on in what stands behind them
pub whole_lines-append : (text rest : List ℕ) → whole_lines text ≡ text
    → whole_lines (text ++ rest) ≡ text ++ whole_lines rest
whole_lines-append [] rest is = refl
whole_lines-append (b ∷ text) rest is = elim (cases_Bool (has_lf (b ∷ text))) as
    (λ _. whole_lines (b ∷ (text ++ rest)) ≡ b ∷ (text ++ whole_lines rest)) [
      | inl has ↦
          let cut : whole_lines text ≡ text = ap (λ (l : List ℕ). drop 1 l) (sym (with_lf b text has) ∙ is) in
          let still : has_lf (b ∷ (text ++ rest)) ≡ true = has_lf-append (b ∷ text) rest
          ∙ ap (λ (t : Bool). t || has_lf rest) has in
          with_lf b (text ++ rest) still ∙ ap (λ (l : List ℕ). b ∷ l) (whole_lines-append text rest cut)
      | inr has ↦
          let none : [] ≡ b ∷ text = sym (without_lf b text has) ∙ is in
          absurd (omega (arith, ap length none))
    ]

-- the lines of a text are a front of those of a longer one
pub more_lines : (text rest : List ℕ)
    → (more : List ℕ) × (whole_lines (text ++ rest) ≡ whole_lines text ++ more)
more_lines text rest =
    let cut = parts text in (
      whole_lines (cut.end ++ rest),
      ap (λ (l : List ℕ). whole_lines (l ++ rest)) cut.split
          ∙ ap whole_lines (append_assoc (whole_lines text) cut.end rest)
          ∙ whole_lines-append (whole_lines text) (cut.end ++ rest) (lines_only text),
    )
