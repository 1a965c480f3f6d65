-- What is found in a list by a test, that nothing is, and what stands in a list of values.
use Rattle.rv_account.proofs.OfState.Words.{◌≡◌, ◌∷◌, ◌∙◌, ℕ, zero, suc, List, [], map, Option, Some, None}
use Rattle.rv_account.proofs.OfState.Words.{true, false}
use Rattle.rv_account.proofs.OfState.Words.{option_and_then, option_map, refl, subst, sym, slice_get}
use Rattle.rv_account.proofs.OfState.Words.{none-some}
use Rattle.rv_account.proofs.OfState.Words.{same_Some, slice_get-map}
use Rattle.std.specs.Prelude.{find, cond, Bool}

-- what is found stands in the list and passes
pub found_stands : {X : Type 0} (test : X → Bool) (xs : List X) (x : X) → find test xs ≡ Some x
    → (i : ℕ) × (slice_get xs i ≡ Some x) × (test x ≡ true)
found_stands test [] x found = absurd (none-some x found)
found_stands {X} test (y ∷ ys) x found =
    elim (test y) as (λ b. test y ≡ b → cond b (Some y) (find test ys) ≡ Some x
    → (i : ℕ) × (slice_get (y ∷ ys) i ≡ Some x) × (test x ≡ true)) [
      | true ↦ λ passes is. (0, is, subst (λ (z : X). test z ≡ true) (same_Some y x is) passes)
      | false ↦ λ fails is. let rest = found_stands test ys x is in (suc rest.0, rest.1, rest.2)
    ] refl found

none_first : {X : Type 0} (test : X → Bool) (y : X) (ys : List X) → find test (y ∷ ys) ≡ None → test y ≡ false
none_first test y ys none =
    elim (test y) as (λ b. cond b (Some y) (find test ys) ≡ None → b ≡ false) [
      | true ↦ λ is. absurd (none-some y (sym is))
      | false ↦ λ is. refl
    ] none

none_behind : {X : Type 0} (test : X → Bool) (y : X) (ys : List X) → find test (y ∷ ys) ≡ None
    → find test ys ≡ None
none_behind test y ys none =
    elim (test y) as (λ b. cond b (Some y) (find test ys) ≡ None → find test ys ≡ None) [
      | true ↦ λ is. absurd (none-some y (sym is))
      | false ↦ λ is. is
    ] none

-- where nothing is found, nothing in the list passes
pub none_found : {X : Type 0} (test : X → Bool) (xs : List X) (i : ℕ) (x : X) → find test xs ≡ None
    → slice_get xs i ≡ Some x → test x ≡ false
none_found test [] i x none there = absurd (none-some x there)
none_found test (y ∷ ys) zero x none there =
    subst (λ z. test z ≡ false) (same_Some y x there) (none_first test y ys none)
none_found test (y ∷ ys) (suc i) x none there = none_found test ys i x (none_behind test y ys none) there

-- what stands in a list of values is the value of what stands in the list
pub mapped_stands : {A B : Type 0} (f : A → B) (xs : List A) (i : ℕ) (y : B) → slice_get (map f xs) i ≡ Some y
    → (x : A) × (slice_get xs i ≡ Some x) × (f x ≡ y)
mapped_stands {A} f xs i y there = by_get (slice_get xs i) refl (sym (slice_get-map f xs i) ∙ there)
  where
    by_get : (o : Option A) → slice_get xs i ≡ o → option_map f o ≡ Some y
        → (x : A) × (slice_get xs i ≡ Some x) × (f x ≡ y)
    by_get None is at = absurd (none-some y at)
    by_get (Some x) is at = (x, is, same_Some _ _ at)

-- what is read of what is there
pub read_of : {A B : Type 0} (f : A → Option B) (o : Option A) (y : B) → option_and_then f o ≡ Some y
    → (x : A) × (o ≡ Some x) × (f x ≡ Some y)
read_of f None y is = absurd (none-some y is)
read_of f (Some x) y is = (x, refl, is)
