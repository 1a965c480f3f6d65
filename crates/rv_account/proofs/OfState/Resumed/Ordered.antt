-- Lists whose numbers rise: as the tests of neighbours tell, and what a binary search finds in them.
use Rattle.std.proofs.Common.{◌≡◌, ◌↔◌, ◌<◌, ◌≤◌, ◌+◌, ◌∷◌, ◌∙◌, ℕ, zero, suc, add-one, List, [], Bool}
use Rattle.std.proofs.Common.{true, false}
use Rattle.std.proofs.Common.{IsTrue, Some, Result, Ok, Err, refl, sym, ap, arith}
use Rattle.std.proofs.Common.{length, get_or}
use Rattle.std.proofs.Common.{slice_get, inl, inr}
use Rattle.std.specs.Prelude.{nat_lt}
use Rattle.std.specs.List.{IsAllAdjacentAnswer}
use Rattle.std.specs.List.Sorted.{IsBinarySearchResult, IsSearchInRange}
use Rattle.std.specs.Ordering.{nat_cmp, ordering_index}
use Rattle.std.specs.Result.{result_ok}
use Rattle.std.proofs.lemmas.Bool.{cases_lt, false≢true, lt-ltb, ltb-true}
use Rattle.std.proofs.lemmas.Bool.Decides.{nat_tests}
use Rattle.std.proofs.lemmas.Cmp.{ranked}
use Rattle.std.proofs.lemmas.Option.{get_or_from_slice_get, slice_get_within, slice_get-get_or}
use Rattle.rv_account.proofs.OfState.Words.{none-some}
use Rattle.rv_account.specs.state.resume.Checking.{IsFoundAt}

-- below its length something stands
pub there_is : {X : Type 0} (xs : List X) (n : ℕ) → n < length xs → (x : X) × (slice_get xs n ≡ Some x)
there_is [] n less = absurd (omega arith)
there_is (x ∷ xs) zero less = (x, refl)
there_is (x ∷ xs) (suc n) less = there_is xs n (omega arith)

-- their numbers rise
abbrev pub Rises : {X : Type 0} → (X → ℕ) → List X → Type 0
Rises {X} f xs = (i j : ℕ) (x y : X) → i < j → slice_get xs i ≡ Some x → slice_get xs j ≡ Some y → f x < f y

module _ {X : Type 0} (f : X → ℕ) where
  -- each is below the next
  abbrev Steps : List X → Type 0
  Steps xs = (k : ℕ) (x y : X) → slice_get xs k ≡ Some x → slice_get xs (suc k) ≡ Some y → f x < f y

  steps_rise : (xs : List X) → Steps xs → (i j : ℕ) (x y : X) → i < j → slice_get xs i ≡ Some x
      → slice_get xs j ≡ Some y → f x < f y
  steps_rise [] steps i j x y less at there = absurd (none-some x at)
  steps_rise (z ∷ xs) steps i zero x y less at there = absurd (omega arith)
  steps_rise (z ∷ xs) steps (suc i) (suc j) x y less at there =
      steps_rise xs (λ k a b first second. steps (suc k) a b first second) i j x y (omega arith) at there
  steps_rise (z ∷ []) steps zero (suc j) x y less at there = absurd (none-some y there)
  steps_rise (z ∷ v ∷ xs) steps zero (suc zero) x y less at there = steps 0 x y at there
  steps_rise (z ∷ v ∷ xs) steps zero (suc (suc j)) x y less at there =
      let first = steps 0 x v at refl in
      let second = steps_rise (v ∷ xs) (λ k a b one other. steps (suc k) a b one other) 0 (suc j) v y
      (omega arith)
      refl there in
      omega (arith, first, second)

  next_is : (xs : List X) (k : ℕ) (d y : X) → slice_get xs (suc k) ≡ Some y → get_or xs (k + 1) d ≡ y
  next_is xs k d y at = ap (λ n. get_or xs n d) (add-one k) ∙ get_or_from_slice_get xs (suc k) y d at

  pub rises_by : (xs : List X) (b : Bool) → IsAllAdjacentAnswer (λ x y b. b ≡ nat_lt (f x) (f y)) xs b
      → IsTrue b ↔ Rises f xs
  rises_by xs true all = (
    λ is. steps_rise xs (λ k x y at next.
        let within = slice_get_within xs (suc k) y next in
        ltb-true (f x) (f y) (sym (all k x (omega (arith, within))
        ∙ ap (λ v. nat_lt (f v) (f (get_or xs (k + 1) x))) (get_or_from_slice_get xs k x x at)
        ∙ ap (λ v. nat_lt (f x) (f v)) (next_is xs k x y next)))),
    λ rises. refl,
  )
  rises_by xs false some = (
    λ is. absurd (false≢true is),
    λ rises.
        let k = some.0 in
        let less : suc k < length xs = let inside = some.1 in omega (arith, inside) in
        let x = there_is xs k (omega arith) in
        let y = there_is xs (suc k) less in
        let up = rises k (suc k) x.0 y.0 (omega arith) x.1 y.1 in
        absurd (false≢true (some.2 x.0
        ∙ ap (λ v. nat_lt (f v) (f (get_or xs (k + 1) x.0))) (get_or_from_slice_get xs k x.0 x.0 x.1)
        ∙ ap (λ v. nat_lt (f x.0) (f v)) (next_is xs k x.0 y.0 y.1)
        ∙ lt-ltb (f x.0) (f y.0) up)),
  )

  -- ---- a binary search

  compared : (a b p : ℕ) → a ≤ b → ordering_index (nat_cmp a p) ≤ ordering_index (nat_cmp b p)
  compared a b p le = grind (arith, nat_tests)

  no_lower : (xs : List X) → Rises f xs → (i j : ℕ) (d : X) → i ≤ j → j < length xs
      → f (get_or xs i d) ≤ f (get_or xs j d)
  no_lower xs rises i j d le within = elim (cases_lt i j) [
    | inl less ↦
        let up = rises i j (get_or xs i d) (get_or xs j d) less
        (slice_get-get_or xs i d (omega (arith, less, within))) (slice_get-get_or xs j d within) in
        omega (arith, up)
    | inr not_less ↦
        let same : i ≡ j = omega (arith, le, not_less) in
        let equal = ap (λ n. f (get_or xs n d)) same in omega (arith, equal)
  ]

  pub found_by : (xs : List X) (p : ℕ) (r : Result ℕ ℕ) → Rises f xs → IsSearchInRange r (length xs)
      → IsBinarySearchResult (λ y. nat_cmp (f y) p) xs r → IsFoundAt f xs p (result_ok r)
  found_by xs p (Ok i) rises within equal =
      let x = there_is xs i within in
      (x.0, x.1, ap f (sym (get_or_from_slice_get xs i x.0 x.0 x.1)) ∙ ranked _ p _ (sym (equal x.0)))
  found_by xs p (Err i) rises within parted = λ j x at same.
      let parts = parted (λ k l d le inside. compared _ _ p (no_lower xs rises k l d le inside)) in
      let here : get_or xs j x ≡ x = get_or_from_slice_get xs j x x at in
      let inside = slice_get_within xs j x at in
      let own : f (get_or xs j x) ≡ p = ap f here ∙ same in
      elim (cases_lt j i) [
        | inl less ↦
            let below = ranked (f (get_or xs j x)) p _ (sym (parts.0 j x (omega arith) less)) in
            omega (arith, own, below)
        | inr not_less ↦
            let above = ranked (f (get_or xs j x)) p _ (sym (parts.1 j x not_less inside)) in
            omega (arith, own, above)
      ]
