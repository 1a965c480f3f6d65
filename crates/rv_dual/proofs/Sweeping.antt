-- A line without its marks.
use Rattle.std.proofs.Common.{◌≡◌, ℕ, zero, suc, ◌<◌, false, List, [], ◌∷◌, length, refl, sym, ap, ◌∙◌}
use Rattle.std.proofs.Common.{arith}
use Rattle.std.specs.Prelude.{map, slice_get}
use Rattle.std.specs.List.{AllPairs, filter}
use Rattle.std.proofs.lemmas.List.Kept.{AllPairs-filter}
use Rattle.rv_dual.specs.declared.slot.Slot.{Slot}
use Rattle.rv_dual.specs.declared.slot.Slot.TheVariants.{Holds, Withdrawn}
use Rattle.rv_dual.specs.Slots.{IsSlotLine, Rises, is_held, is_marked, slot_place, waiting_in}
use Rattle.rv_dual.proofs.Searching.{at_map, map_long}

pub waiting_swept : {X : Type 0} (slots : List (Slot X))
    → waiting_in (filter is_held slots) ≡ waiting_in slots
waiting_swept [] = refl
waiting_swept (Holds x ∷ slots) = ap (λ l. x ∷ l) (waiting_swept slots)
waiting_swept (Withdrawn p ∷ slots) = waiting_swept slots

long_swept : {X : Type 0} (slots : List (Slot X)) → length (filter is_held slots) ≡ length (waiting_in slots)
long_swept [] = refl
long_swept (Holds x ∷ slots) = ap suc (long_swept slots)
long_swept (Withdrawn p ∷ slots) = long_swept slots

unmarked : {X : Type 0} (slots : List (Slot X)) (i : ℕ)
    → is_marked (slice_get (filter is_held slots) i) ≡ false
unmarked [] i = refl
unmarked (Holds x ∷ slots) zero = refl
unmarked (Holds x ∷ slots) (suc i) = unmarked slots i
unmarked (Withdrawn p ∷ slots) i = unmarked slots i

-- numbers of elements rise exactly if the elements do by them
by_number : {X : Type 0} (f : X → ℕ) (xs : List X) → AllPairs ◌<◌ (map f xs) → AllPairs (λ x y. f x < f y) xs
by_number f xs pairs = λ i j d lt within. omega (
  arith,
  pairs i j 0 lt (omega (arith, within, map_long f xs)),
  at_map f xs i 0 d (omega (arith, lt, within)),
  at_map f xs j 0 d within,
)

numbers : {X : Type 0} (f : X → ℕ) (e : X) (xs : List X) → AllPairs (λ x y. f x < f y) xs
    → AllPairs ◌<◌ (map f xs)
numbers f e xs pairs = λ i j d lt inside.
    let within : j < length xs = omega (arith, inside, map_long f xs) in
    omega (
      arith,
      pairs i j e lt within,
      at_map f xs i d e (omega (arith, lt, within)),
      at_map f xs j d e within,
    )

rises_swept : {X : Type 0} (place_of : X → ℕ) (slots : List (Slot X)) → Rises place_of slots
    → Rises place_of (filter is_held slots)
rises_swept place_of slots rises = numbers (slot_place place_of) (Withdrawn 0) (filter is_held slots)
    (AllPairs-filter (λ s t. slot_place place_of s < slot_place place_of t) is_held slots
    (by_number (slot_place place_of) slots rises))

pub line_swept : {X : Type 0} (place_of : X → ℕ) (slots : List (Slot X)) (n : ℕ) → Rises place_of slots
    → n ≡ length (waiting_in slots) → IsSlotLine place_of (filter is_held slots) n
line_swept place_of slots n rises counted = record {
  rises = rises_swept place_of slots rises;
  first = unmarked slots 0;
  last = unmarked slots _;
  counted = counted ∙ sym (ap length (waiting_swept slots));
  few = omega (arith, counted, long_swept slots);
}
