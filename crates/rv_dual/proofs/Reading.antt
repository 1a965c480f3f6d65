-- Who waits first above a place, or from a slot on.
use Rattle.std.proofs.Common.{◌≡◌, ℕ, zero, suc, ◌+◌, true, false, cond, List, [], ◌∷◌, length}
use Rattle.std.proofs.Common.{Option, Some, None, drop, refl, sym, ap, ◌∙◌, arith}
use Rattle.std.specs.Prelude.{is_some, map, nat_lt, option_map, slice_get}
use Rattle.std.specs.List.{AllWithin}
use Rattle.std.specs.List.Sorted.{IsNonDecreasingBy, IsPartitionPoint}
use Rattle.std.proofs.Math.Dec.{leb}
use Rattle.std.proofs.lemmas.Bool.{false≢true}
use Rattle.std.proofs.lemmas.Bool.Decides.{nat_tests}
use Rattle.std.proofs.lemmas.List.Sorted.{IsNonDecreasingBy-from_default}
use Rattle.std.proofs.lemmas.Option.{none-some, same_Some}
use Rattle.rv_dual.specs.declared.slot.Slot.{Slot}
use Rattle.rv_dual.specs.declared.slot.Slot.TheVariants.{Holds, Withdrawn}
use Rattle.rv_dual.specs.Above.{first_above}
use Rattle.rv_dual.specs.Slots.{Rises, holder, slot_place, waiting_in}
use Rattle.rv_dual.proofs.Searching.{not_above}

-- ---- above a place

pub first_of_all : (places : List ℕ) → slice_get places 0 ≡ first_above None places
first_of_all [] = refl
first_of_all (p ∷ places) = refl

pub never_falls : {X : Type 0} (place_of : X → ℕ) (slots : List (Slot X)) → Rises place_of slots
    → IsNonDecreasingBy (slot_place place_of) slots
never_falls place_of slots rises = IsNonDecreasingBy-from_default (slot_place place_of) slots (Withdrawn 0)
    (λ i j le within. not_above place_of slots 0 rises i j le within)

within_above : (p q : ℕ) → leb q p ≡ false → nat_lt p q ≡ true
within_above p q e = grind (arith, nat_tests)

within_below : (p q : ℕ) → leb q p ≡ true → nat_lt p q ≡ false
within_below p q e = grind (arith, nat_tests)

module _ {X : Type 0} (place_of : X → ℕ) (p : ℕ) where
  all_above : (slots : List (Slot X)) → AllWithin (λ s. leb (slot_place place_of s) p ≡ false) slots 0
      (length slots)
      → slice_get (map place_of (waiting_in slots)) 0 ≡ first_above (Some p) (map place_of (waiting_in slots))
  all_above [] above = refl
  all_above (Holds x ∷ slots) above = sym (ap (λ b. cond b (Some (place_of x)) (first_above (Some p)
      (map place_of (waiting_in slots)))) (within_above p (place_of x) (above 0 (Holds x) (omega arith)
      (omega arith))))
  all_above (Withdrawn q ∷ slots) above = all_above slots
      (λ k d low high. above (suc k) d (omega arith) (omega (arith, high)))

  pub first_after : (slots : List (Slot X)) (i : ℕ) → IsPartitionPoint
      (λ s. leb (slot_place place_of s) p ≡ true) (λ s. leb (slot_place place_of s) p ≡ false) slots i
      → slice_get (map place_of (waiting_in (drop i slots))) 0
      ≡ first_above (Some p) (map place_of (waiting_in slots))
  first_after slots zero parted = all_above slots parted.1
  first_after [] (suc i) parted = refl
  first_after (Holds x ∷ slots) (suc i) parted =
      first_after slots i (
        (λ k d low high. parted.0 (suc k) d (omega arith) (omega (arith, high))),
        (λ k d low high. parted.1 (suc k) d (omega (arith, low)) (omega (arith, high))),
      )
      ∙ sym (ap (λ b. cond b (Some (place_of x)) (first_above (Some p) (map place_of (waiting_in slots))))
      (within_below p (place_of x) (parted.0 0 (Holds x) (omega arith) (omega arith))))
  first_after (Withdrawn q ∷ slots) (suc i) parted =
      first_after slots i (
        (λ k d low high. parted.0 (suc k) d (omega arith) (omega (arith, high))),
        (λ k d low high. parted.1 (suc k) d (omega (arith, low)) (omega (arith, high))),
      )

-- ---- from a slot on

drop_at : {X : Type 0} (xs : List X) (i : ℕ) (x : X) → slice_get xs i ≡ Some x
    → drop i xs ≡ x ∷ drop (suc i) xs
drop_at [] i x there = absurd (none-some _ there)
drop_at (y ∷ xs) zero x there = ap (λ z. z ∷ xs) (same_Some _ _ there)
drop_at (y ∷ xs) (suc i) x there = drop_at xs i x there

module _ {X : Type 0} (place_of : X → ℕ) where
  heads : (s : Slot X) (slots : List (Slot X)) (o : Option ℕ) → o ≡ option_map place_of (holder s)
      → is_some o ≡ true → o ≡ slice_get (map place_of (waiting_in (s ∷ slots))) 0
  heads (Holds x) slots o is some = is
  heads (Withdrawn q) slots o is some = absurd (false≢true (sym (ap is_some is) ∙ some))

  pub first_here : (slots : List (Slot X)) (i : ℕ) (s : Slot X) (o : Option ℕ) → slice_get slots i ≡ Some s
      → o ≡ option_map place_of (holder s) → is_some o ≡ true
      → o ≡ slice_get (map place_of (waiting_in (drop i slots))) 0
  first_here slots i s o there is some = heads s (drop (suc i) slots) o is some
      ∙ ap (λ l. slice_get (map place_of (waiting_in l)) 0) (sym (drop_at slots i s there))

  passes : (s : Slot X) (slots : List (Slot X)) (o : Option ℕ) → o ≡ option_map place_of (holder s)
      → is_some o ≡ false → waiting_in slots ≡ waiting_in (s ∷ slots)
  passes (Holds x) slots o is none = absurd (false≢true (sym none ∙ ap is_some is))
  passes (Withdrawn q) slots o is none = refl

  -- a mark is passed over
  pub passed : (slots : List (Slot X)) (i : ℕ) (s : Slot X) (o : Option ℕ) → slice_get slots i ≡ Some s
      → o ≡ option_map place_of (holder s) → is_some o ≡ false
      → waiting_in (drop (i + 1) slots) ≡ waiting_in (drop i slots)
  passed slots i s o there is none =
      let next : i + 1 ≡ suc i = omega arith in
      ap (λ k. waiting_in (drop k slots)) next ∙ passes s (drop (suc i) slots) o is none
      ∙ ap waiting_in (sym (drop_at slots i s there))
