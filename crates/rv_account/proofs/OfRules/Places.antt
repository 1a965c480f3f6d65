-- What stands at a place of a list that grew at its end, and of a front of a list.
use Rattle.rv_account.proofs.OfRules.Words.{◌≡◌, ◌⊎◌, ◌<◌, ◌∷◌, ◌++◌, ◌∙◌, inl, inr, ℕ, zero, suc, List, []}
use Rattle.rv_account.proofs.OfRules.Words.{length}
use Rattle.rv_account.proofs.OfRules.Words.{take, Some, refl, ap, arith, slice_get, same_Some, none-some}
use Rattle.std.proofs.Math.ListN.{set}

pub get-append_within : {X : Type 0} (xs ys : List X) (i : ℕ) → i < length xs
    → slice_get (xs ++ ys) i ≡ slice_get xs i
get-append_within [] ys i h = absurd (omega arith)
get-append_within (x ∷ xs) ys zero h = refl
get-append_within (x ∷ xs) ys (suc i) h = get-append_within xs ys i (omega arith)

pub get-append_end : {X : Type 0} (xs : List X) (x : X) → slice_get (xs ++ x ∷ []) (length xs) ≡ Some x
get-append_end [] x = refl
get-append_end (y ∷ xs) x = get-append_end xs x

-- what stands in a list with one more is in the list, or it is that one
pub get-append_cases : {X : Type 0} (xs : List X) (x y : X) (i : ℕ) → slice_get (xs ++ x ∷ []) i ≡ Some y
    → ((i < length xs) × (slice_get xs i ≡ Some y)) ⊎ ((i ≡ length xs) × (x ≡ y))
get-append_cases [] x y zero e = inr (refl, same_Some x y e)
get-append_cases [] x y (suc i) e = absurd (none-some y e)
get-append_cases (z ∷ xs) x y zero e = inl (omega arith, e)
get-append_cases (z ∷ xs) x y (suc i) e = elim (get-append_cases xs x y i e) [
  | inl h ↦ inl (omega arith, h.1)
  | inr h ↦ inr (ap suc h.0, h.1)
]

pub within : {X : Type 0} (xs : List X) (i : ℕ) (x : X) → slice_get xs i ≡ Some x → i < length xs
within [] i x e = absurd (none-some x e)
within (y ∷ xs) zero x e = omega arith
within (y ∷ xs) (suc i) x e = let h : i < length xs = within xs i x e in omega arith

pub get-append : {X : Type 0} (xs ys : List X) (i : ℕ) (x : X) → slice_get xs i ≡ Some x
    → slice_get (xs ++ ys) i ≡ Some x
get-append xs ys i x e = get-append_within xs ys i (within xs i x e) ∙ e

-- a front reads as the list does
pub get-take : {X : Type 0} (xs : List X) (n i : ℕ) → i < n → slice_get (take n xs) i ≡ slice_get xs i
get-take [] zero i h = refl
get-take [] (suc n) i h = refl
get-take (x ∷ xs) zero i h = absurd (omega arith)
get-take (x ∷ xs) (suc n) zero h = refl
get-take (x ∷ xs) (suc n) (suc i) h = get-take xs n i (omega arith)

-- ---- a list with one element changed

pub get-set_same : {X : Type 0} (xs : List X) (i : ℕ) (v : X) → i < length xs
    → slice_get (set xs i v) i ≡ Some v
get-set_same [] i v h = absurd (omega arith)
get-set_same (x ∷ xs) zero v h = refl
get-set_same (x ∷ xs) (suc i) v h = get-set_same xs i v (omega arith)

pub get-set_other : {X : Type 0} (xs : List X) (i j : ℕ) (v : X) → (j ≡ i → ⊥)
    → slice_get (set xs i v) j ≡ slice_get xs j
get-set_other [] i j v h = refl
get-set_other (x ∷ xs) zero zero v h = absurd (h refl)
get-set_other (x ∷ xs) zero (suc j) v h = refl
get-set_other (x ∷ xs) (suc i) zero v h = refl
get-set_other (x ∷ xs) (suc i) (suc j) v h = get-set_other xs i j v (λ e. h (ap suc e))
