-- The whole lines of a front of printed lines are the first of these lines.
use Rattle.std.proofs.Common.{◌≡◌, ◌≢◌, ◌⊎◌, ◌≤◌, ◌++◌, ◌∷◌, ◌∙◌, ℕ, List, [], Bool, false}
use Rattle.std.proofs.Common.{ap, append_assoc, arith, inl, inr, length, length-append, refl, suc, sym, take}
use Rattle.std.proofs.Common.{zero}
use Rattle.std.proofs.lemmas.Bool.Decides.{nat_tests}
use Rattle.std.proofs.lemmas.List.{length-take}
use Rattle.std.specs.Prelude.{◌==◌, ◌||◌}
use Rattle.rv_journal.specs.Text.{whole_lines}
use Rattle.rv_journal.proofs.Lines.{has_lf, none, whole_lines-append, whole_lines-lf}
use Rattle.rv_book.proofs.OfLines.Cutting.{Lacks}
use Rattle.rv_book.proofs.OfLines.ReadBack.{AllLines}
use Rattle.rv_book.specs.lines.Lines.{printed_lines}

-- A front of printed lines has so many whole ones: all that are no longer than it.
pub record HasWholeLines (lines : List (List ℕ)) (left : List ℕ) : Type 0 where
  pub count : ℕ
  pub within : count ≤ length lines
  pub whole : whole_lines left ≡ printed_lines (take count lines)
  pub at_least : (j : ℕ) → j ≤ length lines → length (printed_lines (take j lines)) ≤ length left → j ≤ count

differs : (x : ℕ) → x ≢ 10 → (x == 10) ≡ false
differs x other = grind (arith, nat_tests)

both_false : (p q : Bool) → p ≡ false → q ≡ false → (p || q) ≡ false
both_false p q ps qs = rw (ps, qs) refl

take_none : (n : ℕ) → take {A = ℕ} n [] ≡ []
take_none zero = refl
take_none (suc n) = refl

-- such a front ends within the first line, or it has that whole
line_cut : (line rest : List ℕ) (n : ℕ) → Lacks 10 line
    → ((has_lf (take n (line ++ 10 ∷ rest)) ≡ false) × (n ≤ length line))
    ⊎ ((m : ℕ) × (take n (line ++ 10 ∷ rest) ≡ line ++ 10 ∷ take m rest))
line_cut line rest zero lacks = inl (refl, omega arith)
line_cut [] rest (suc n) lacks = inr (n, refl)
line_cut (x ∷ line) rest (suc n) lacks =
    let others : Lacks 10 line = λ k d low. lacks (suc k) d (omega (arith, low)) in
    elim (line_cut line rest n others) [
      | inl short ↦ inl (
        both_false (x == 10) (has_lf (take n (line ++ 10 ∷ rest))) (differs x (lacks 0 0 (omega arith)))
            short.0,
        omega (arith, short.1),
      )
      | inr long ↦ inr (long.0, ap (λ (l : List ℕ). x ∷ l) long.1)
    ]

pub fronts : (lines : List (List ℕ)) → AllLines lines → (n : ℕ)
    → HasWholeLines lines (take n (printed_lines lines))
fronts [] all n = record {
  count = 0;
  within = omega arith;
  whole = ap whole_lines (take_none n);
  at_least = λ j low long. low;
}
fronts (line ∷ lines) all n = elim (line_cut line (printed_lines lines) n all.0) [
  | inl short ↦ record {
    count = 0;
    within = omega arith;
    whole = none (take n (line ++ 10 ∷ printed_lines lines)) short.0;
    at_least = λ j low long. first_is_longer j long short.1;
  }
  | inr long ↦
      let rest = fronts lines all.1 long.0 in
      let left : List ℕ = take long.0 (printed_lines lines) in
      record {
        count = suc rest.count;
        within = omega (arith, rest.within);
        whole = ap whole_lines (long.1 ∙ sym (append_assoc line (10 ∷ []) left))
            ∙ whole_lines-append (line ++ 10 ∷ []) left (whole_lines-lf line)
            ∙ ap (λ (l : List ℕ). (line ++ 10 ∷ []) ++ l) rest.whole
            ∙ append_assoc line (10 ∷ []) (printed_lines (take rest.count lines));
        at_least = λ j low has. more_lines_fit long.0 long.1 rest j low has;
      }
]
  where
    first_is_longer : (j : ℕ)
        → length (printed_lines (take j (line ∷ lines))) ≤ length (take n (line ++ 10 ∷ printed_lines lines))
        → n ≤ length line → j ≤ 0
    first_is_longer zero long low = omega arith
    first_is_longer (suc j) long low =
        absurd (omega (
          arith,
          long,
          low,
          length-take n (line ++ 10 ∷ printed_lines lines),
          length-append line (10 ∷ printed_lines (take j lines)),
        ))

    more_lines_fit : (m : ℕ)
        → take n (line ++ 10 ∷ printed_lines lines) ≡ line ++ 10 ∷ take m (printed_lines lines)
        → (rest : HasWholeLines lines (take m (printed_lines lines))) (j : ℕ) → j ≤ length (line ∷ lines)
        → length (printed_lines (take j (line ∷ lines))) ≤ length (take n (line ++ 10 ∷ printed_lines lines))
        → j ≤ suc rest.count
    more_lines_fit m is rest zero low has = omega arith
    more_lines_fit m is rest (suc j) low has =
        omega (
          arith,
          rest.at_least j (omega (arith, low)) (omega (
            arith,
            has,
            ap length is,
            length-append line (10 ∷ printed_lines (take j lines)),
            length-append line (10 ∷ take m (printed_lines lines)),
          )),
        )
