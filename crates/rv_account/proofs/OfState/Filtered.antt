-- What stands in a list of which some are left, in the values that a function gives of one, and in a part of
-- one.
use Rattle.rv_account.proofs.OfState.Words.{◌≡◌, ◌⊎◌, ◌<◌, ◌++◌, ◌∷◌, ◌∙◌, inl, inr, ℕ, zero, suc, List, []}
use Rattle.rv_account.proofs.OfState.Words.{cond, Bool}
use Rattle.rv_account.proofs.OfState.Words.{true, false, map, length, take, Option, Some, None}
use Rattle.rv_account.proofs.OfState.Words.{option_and_then}
use Rattle.rv_account.proofs.OfState.Words.{option_map, refl, sym, ap, subst, arith, cons_option, filter}
use Rattle.rv_account.proofs.OfState.Words.{list_any}
use Rattle.rv_account.proofs.OfState.Words.{slice_get, false≢true, none-some, same_Some, slice_get-map}
use Rattle.rv_account.proofs.OfState.Words.{within}
use Rattle.std.proofs.Common.{◌||◌, length-take}
use Rattle.std.specs.List.{filter_map, find}
use Rattle.rv_account.proofs.OfRules.Places.{get-take}

-- the one stands before the other
abbrev pub InOrder : {X : Type 0} → List X → X → X → Type 0
InOrder xs x z = (i : ℕ) × (j : ℕ) × (i < j) × (slice_get xs i ≡ Some x) × (slice_get xs j ≡ Some z)

-- ---- a list of which some are left

module _ {X : Type 0} (p : X → Bool) where
  left_of_head : (y : X) (xs : List X) (x : X)
      → ((k : ℕ) → slice_get (filter p xs) k ≡ Some x → (j : ℕ) × (slice_get xs j ≡ Some x) × (p x ≡ true))
      → (b : Bool) → p y ≡ b → (k : ℕ)
      → slice_get (cond b (y ∷ filter p xs) (filter p xs)) k ≡ Some x
      → (j : ℕ) × (slice_get (y ∷ xs) j ≡ Some x) × (p x ≡ true)
  left_of_head y xs x rest true passes zero there = (0, there, ap p (sym (same_Some _ _ there)) ∙ passes)
  left_of_head y xs x rest true passes (suc k) there = let found =
      rest k there in (suc found.0, found.1, found.2)
  left_of_head y xs x rest false passes k there = let found = rest k there in (suc found.0, found.1, found.2)

  -- what is left was there, and passes
  pub filter_get : (xs : List X) (i : ℕ) (x : X) → slice_get (filter p xs) i ≡ Some x
      → (j : ℕ) × (slice_get xs j ≡ Some x) × (p x ≡ true)
  filter_get [] i x at = absurd (none-some x at)
  filter_get (y ∷ xs) i x at = left_of_head y xs x (λ k there. filter_get xs k x there) (p y) refl i at

  -- what passes is left
  pub get_filter : (xs : List X) (j : ℕ) (x : X) → slice_get xs j ≡ Some x → p x ≡ true
      → (i : ℕ) × (slice_get (filter p xs) i ≡ Some x)
  get_filter [] j x at passes = absurd (none-some x at)
  get_filter (y ∷ xs) zero x at passes =
      let same : y ≡ x = same_Some _ _ at in (
        0,
        subst (λ b. slice_get (cond b (y ∷ filter p xs) (filter p xs)) 0 ≡ Some x)
            (sym (ap p same ∙ passes)) at,
      )
  get_filter (y ∷ xs) (suc j) x at passes = by_head (p y) (get_filter xs j x at passes)
    where
      by_head : (b : Bool) → (i : ℕ) × (slice_get (filter p xs) i ≡ Some x)
          → (i : ℕ) × (slice_get (cond b (y ∷ filter p xs) (filter p xs)) i ≡ Some x)
      by_head true found = (suc found.0, found.1)
      by_head false found = found

  order_with_head : (y : X) (xs : List X) (x z : X)
      → ((k l : ℕ) → k < l → slice_get (filter p xs) k ≡ Some x → slice_get (filter p xs) l ≡ Some z
      → InOrder xs x z) → (b : Bool) → (k l : ℕ) → k < l
      → slice_get (cond b (y ∷ filter p xs) (filter p xs)) k ≡ Some x
      → slice_get (cond b (y ∷ filter p xs) (filter p xs)) l ≡ Some z → InOrder (y ∷ xs) x z
  order_with_head y xs x z rest false k l less first second =
      let found = rest k l less first second in
      (suc found.0, suc found.1, omega (arith, found.2), found.3, found.4)
  order_with_head y xs x z rest true k zero less first second = absurd (omega arith)
  order_with_head y xs x z rest true zero (suc l) less first second =
      let found = filter_get xs l z second in
      (0, suc found.0, omega arith, first, found.1)
  order_with_head y xs x z rest true (suc k) (suc l) less first second =
      let found = rest k l (omega arith) first second in
      (suc found.0, suc found.1, omega (arith, found.2), found.3, found.4)

  -- what is left stands in the order of before
  pub filter_order : (xs : List X) (x z : X) (k l : ℕ) → k < l → slice_get (filter p xs) k ≡ Some x
      → slice_get (filter p xs) l ≡ Some z → InOrder xs x z
  filter_order [] x z k l less first second = absurd (none-some x first)
  filter_order (y ∷ xs) x z k l less first second =
      order_with_head y xs x z (filter_order xs x z) (p y) k l less first second

  pub filter_all : (xs : List X) → ((x : X) → p x ≡ true) → filter p xs ≡ xs
  filter_all [] all = refl
  filter_all (y ∷ xs) all =
      ap (λ b. cond b (y ∷ filter p xs) (filter p xs)) (all y) ∙ ap (λ l. y ∷ l) (filter_all xs all)

  -- ---- what is found

  found_head : (y : X) (xs : List X) (x : X)
      → (find p xs ≡ Some x → (i : ℕ) × (slice_get xs i ≡ Some x) × (p x ≡ true)) → (b : Bool) → p y ≡ b
      → cond b (Some y) (find p xs) ≡ Some x
      → (i : ℕ) × (slice_get (y ∷ xs) i ≡ Some x) × (p x ≡ true)
  found_head y xs x rest true passes found = (0, found, ap p (sym (same_Some _ _ found)) ∙ passes)
  found_head y xs x rest false passes found = let there = rest found in (suc there.0, there.1, there.2)

  -- what is found stands there, and passes
  pub find_get : (xs : List X) (x : X) → find p xs ≡ Some x
      → (i : ℕ) × (slice_get xs i ≡ Some x) × (p x ≡ true)
  find_get [] x found = absurd (none-some x found)
  find_get (y ∷ xs) x found = found_head y xs x (find_get xs x) (p y) refl found

  found_at_head : (y : X) (xs : List X) → ((x : X) × (find p xs ≡ Some x)) → (b : Bool)
      → (x : X) × (cond b (Some y) (find p xs) ≡ Some x)
  found_at_head y xs rest true = (y, refl)
  found_at_head y xs rest false = rest

  -- where one stands that passes, one is found
  pub get_find : (xs : List X) (i : ℕ) (x : X) → slice_get xs i ≡ Some x → p x ≡ true
      → (y : X) × (find p xs ≡ Some y)
  get_find [] i x at passes = absurd (none-some x at)
  get_find (y ∷ xs) zero x at passes =
      (y, ap (λ b. cond b (Some y) (find p xs)) (ap p (same_Some _ _ at) ∙ passes))
  get_find (y ∷ xs) (suc i) x at passes = found_at_head y xs (get_find xs i x at passes) (p y)

  -- ---- that some pass

  any_of_head : (y : X) (xs : List X) (b : Bool) → p y ≡ b
      → (list_any p xs ≡ true → (i : ℕ) × (x : X) × (slice_get xs i ≡ Some x) × (p x ≡ true))
      → (b || list_any p xs) ≡ true
      → (i : ℕ) × (x : X) × (slice_get (y ∷ xs) i ≡ Some x) × (p x ≡ true)
  any_of_head y xs true passes rest some = (0, y, refl, passes)
  any_of_head y xs false passes rest some = let found = rest some in (suc found.0, found.1, found.2, found.3)

  pub any_get : (xs : List X) → list_any p xs ≡ true
      → (i : ℕ) × (x : X) × (slice_get xs i ≡ Some x) × (p x ≡ true)
  any_get [] some = absurd (false≢true some)
  any_get (y ∷ xs) some = any_of_head y xs (p y) refl (any_get xs) some

  pub get_any : (xs : List X) (i : ℕ) (x : X) → slice_get xs i ≡ Some x → p x ≡ true → list_any p xs ≡ true
  get_any [] i x at passes = absurd (none-some x at)
  get_any (y ∷ xs) zero x at passes = ap (λ b. b || list_any p xs) (ap p (same_Some _ _ at) ∙ passes)
  get_any (y ∷ xs) (suc i) x at passes = or_other (p y) (list_any p xs) (get_any xs i x at passes)
    where
      or_other : (b c : Bool) → c ≡ true → (b || c) ≡ true
      or_other true c is = refl
      or_other false c is = is

  -- ---- numbers that rise

  -- the numbers of a list's elements rise
  abbrev pub Rises : (X → ℕ) → List X → Type 0
  Rises f xs = (i j : ℕ) (x y : X) → i < j → slice_get xs i ≡ Some x → slice_get xs j ≡ Some y → f x < f y

  rises_head : (f : X → ℕ) (z : X) (xs : List X) → Rises f (z ∷ xs) → Rises f (filter p xs) → (b : Bool)
      → Rises f (cond b (z ∷ filter p xs) (filter p xs))
  rises_head f z xs rises rest true zero zero x y less at there = absurd (omega arith)
  rises_head f z xs rises rest true zero (suc j) x y less at there = let was =
      filter_get xs j y there in rises 0 (suc was.0) x y (omega arith) at was.1
  rises_head f z xs rises rest true (suc i) zero x y less at there = absurd (omega arith)
  rises_head f z xs rises rest true (suc i) (suc j) x y less at there = rest i j x y (omega arith) at there
  rises_head f z xs rises rest false i j x y less at there = rest i j x y less at there

  -- of those that are left too
  pub rises_left : (f : X → ℕ) (xs : List X) → Rises f xs → Rises f (filter p xs)
  rises_left f [] rises = λ i j x y less at there. absurd (none-some x at)
  rises_left f (z ∷ xs) rises =
      rises_head f z xs rises
      (rises_left f xs (λ i j x y less at there. rises (suc i) (suc j) x y (omega arith) at there)) (p z)

-- ---- the values that a function gives

module _ {X Y : Type 0} (h : X → Option Y) where
  value_of_head : (x : X) (xs : List X) (y : Y)
      → ((k : ℕ) → slice_get (filter_map h xs) k ≡ Some y
      → (j : ℕ) × (z : X) × (slice_get xs j ≡ Some z) × (h z ≡ Some y)) → (o : Option Y) → h x ≡ o → (k : ℕ)
      → slice_get (cons_option o (filter_map h xs)) k ≡ Some y
      → (j : ℕ) × (z : X) × (slice_get (x ∷ xs) j ≡ Some z) × (h z ≡ Some y)
  value_of_head x xs y rest (Some v) gives zero there = (0, x, refl, gives ∙ there)
  value_of_head x xs y rest (Some v) gives (suc k) there = let found =
      rest k there in (suc found.0, found.1, found.2, found.3)
  value_of_head x xs y rest None gives k there = let found =
      rest k there in (suc found.0, found.1, found.2, found.3)

  -- each value is that of an element
  pub filter_map_get : (xs : List X) (i : ℕ) (y : Y) → slice_get (filter_map h xs) i ≡ Some y
      → (j : ℕ) × (x : X) × (slice_get xs j ≡ Some x) × (h x ≡ Some y)
  filter_map_get [] i y at = absurd (none-some y at)
  filter_map_get (x ∷ xs) i y at =
      value_of_head x xs y (λ k there. filter_map_get xs k y there) (h x) refl i at

  -- and each element's value stands there
  pub get_filter_map : (xs : List X) (j : ℕ) (x : X) (y : Y) → slice_get xs j ≡ Some x → h x ≡ Some y
      → (i : ℕ) × (slice_get (filter_map h xs) i ≡ Some y)
  get_filter_map [] j x y at gives = absurd (none-some x at)
  get_filter_map (z ∷ xs) zero x y at gives =
      (0, ap (λ o. slice_get (cons_option o (filter_map h xs)) 0) (ap h (same_Some _ _ at) ∙ gives))
  get_filter_map (z ∷ xs) (suc j) x y at gives = by_head (h z) (get_filter_map xs j x y at gives)
    where
      by_head : (o : Option Y) → (i : ℕ) × (slice_get (filter_map h xs) i ≡ Some y)
          → (i : ℕ) × (slice_get (cons_option o (filter_map h xs)) i ≡ Some y)
      by_head (Some v) found = (suc found.0, found.1)
      by_head None found = found

-- ---- a mapped list

pub mapped_there : {X Y : Type 0} (f : X → Y) (o : Option X) (y : Y) → option_map f o ≡ Some y
    → (x : X) × (o ≡ Some x) × (f x ≡ y)
mapped_there f None y is = absurd (none-some y is)
mapped_there f (Some x) y is = (x, refl, same_Some _ _ is)

pub chained_there : {X Y : Type 0} (f : X → Option Y) (o : Option X) (y : Y) → option_and_then f o ≡ Some y
    → (x : X) × (o ≡ Some x) × (f x ≡ Some y)
chained_there f None y is = absurd (none-some y is)
chained_there f (Some x) y is = (x, refl, is)

-- what stands at a place of a mapped list
pub map_get : {X Y : Type 0} (f : X → Y) (xs : List X) (i : ℕ) (y : Y) → slice_get (map f xs) i ≡ Some y
    → (x : X) × (slice_get xs i ≡ Some x) × (f x ≡ y)
map_get f xs i y at = mapped_there f (slice_get xs i) y (sym (slice_get-map f xs i) ∙ at)

pub get_map : {X Y : Type 0} (f : X → Y) (xs : List X) (i : ℕ) (x : X) → slice_get xs i ≡ Some x
    → slice_get (map f xs) i ≡ Some (f x)
get_map f xs i x at = slice_get-map f xs i ∙ ap (option_map f) at

-- ---- a front, and one list after another

pub take_get : {X : Type 0} (xs : List X) (n i : ℕ) (x : X) → slice_get (take n xs) i ≡ Some x
    → slice_get xs i ≡ Some x
take_get xs n i x at =
    let inside : i < length (take n xs) = within (take n xs) i x at in
    sym (get-take xs n i (omega (arith, length-take n xs))) ∙ at

-- what stands in both together stands in one of them
pub append_get : {X : Type 0} (xs ys : List X) (i : ℕ) (x : X) → slice_get (xs ++ ys) i ≡ Some x
    → ((j : ℕ) × (slice_get xs j ≡ Some x)) ⊎ ((j : ℕ) × (slice_get ys j ≡ Some x))
append_get [] ys i x at = inr (i, at)
append_get (y ∷ xs) ys zero x at = inl (0, at)
append_get (y ∷ xs) ys (suc i) x at = elim (append_get xs ys i x at) [
  | inl first ↦ inl (suc first.0, first.1)
  | inr second ↦ inr second
]
