-- What stands in a list with one more, and in one of which some are left.
use Rattle.rv_model_queues.proofs.Words.{◌≡◌, ◌⊎◌, ◌∷◌, ◌++◌, inl, inr, ℕ, zero, suc, List, [], Bool, true}
use Rattle.rv_model_queues.proofs.Words.{false, cond, Some, slice_get, none-some, same_Some}
use Rattle.std.specs.List.{filter}

-- what stands in a list with one more is in the list, or it is that one
pub pushed_cases : {X : Type 0} (xs : List X) (x y : X) (i : ℕ) → slice_get (xs ++ x ∷ []) i ≡ Some y
    → (slice_get xs i ≡ Some y) ⊎ (x ≡ y)
pushed_cases [] x y zero e = inr (same_Some x y e)
pushed_cases [] x y (suc i) e = absurd (none-some y e)
pushed_cases (z ∷ xs) x y zero e = inl e
pushed_cases (z ∷ xs) x y (suc i) e = pushed_cases xs x y i e

module _ {X : Type 0} (p : X → Bool) where
  left_of_head : (y : X) (xs : List X) (x : X)
      → ((k : ℕ) → slice_get (filter p xs) k ≡ Some x → (j : ℕ) × (slice_get xs j ≡ Some x)) → (b : Bool)
      → (k : ℕ) → slice_get (cond b (y ∷ filter p xs) (filter p xs)) k ≡ Some x
      → (j : ℕ) × (slice_get (y ∷ xs) j ≡ Some x)
  left_of_head y xs x rest true zero there = (0, there)
  left_of_head y xs x rest true (suc k) there = let found = rest k there in (suc found.0, found.1)
  left_of_head y xs x rest false k there = let found = rest k there in (suc found.0, found.1)

  -- what is left was there
  pub left_of : (xs : List X) (i : ℕ) (x : X) → slice_get (filter p xs) i ≡ Some x
      → (j : ℕ) × (slice_get xs j ≡ Some x)
  left_of [] i x at = absurd (none-some x at)
  left_of (y ∷ xs) i x at = left_of_head y xs x (λ k there. left_of xs k x there) (p y) i at
