-- One that joins a line after the others.
use Rattle.std.proofs.Common.{◌≡◌, ℕ, zero, suc, ◌+◌, ◌-◌, ◌<◌, ◌≤◌, List, [], ◌∷◌, ◌++◌, length, get_or}
use Rattle.std.proofs.Common.{refl, sym, ap, ◌∙◌, subst, arith, length-append}
use Rattle.std.specs.Prelude.{slice_get}
use Rattle.std.specs.List.{All, AllPairs}
use Rattle.std.proofs.lemmas.Bool.{false≢true}
use Rattle.std.proofs.lemmas.List.{map-append}
use Rattle.std.proofs.lemmas.List.Elements.{filter_map-append}
use Rattle.std.proofs.lemmas.List.Quantifiers.{all_pairs_push}
use Rattle.rv_dual.specs.declared.slot.Slot.{Slot}
use Rattle.rv_dual.specs.declared.slot.Slot.TheVariants.{Holds, Withdrawn}
use Rattle.rv_dual.specs.Slots.{FirstHolds, IsSlotLine, LastHolds, Rises, last_slot, holder, is_marked}
use Rattle.rv_dual.specs.Slots.{slot_place, slot_places, waiting_in}
use Rattle.rv_dual.proofs.Removing.{rest_pairs}
use Rattle.rv_dual.proofs.Marks.{last_of}

last_behind : {X : Type 0} (s t : Slot X) (r : List (Slot X)) → last_slot (s ∷ t ∷ r) ≡ last_slot (t ∷ r)
last_behind s t r =
    let at : length (s ∷ t ∷ r) - 1 ≡ suc (length (t ∷ r) - 1) = omega arith in
    ap (slice_get (s ∷ t ∷ r)) at

all_behind : {X : Type 0} (P : X → Type 0) (s : Slot X) (slots : List (Slot X))
    → All P (waiting_in (s ∷ slots)) → All P (waiting_in slots)
all_behind P (Holds x) slots all = λ k d within. all (suc k) d (omega arith)
all_behind P (Withdrawn p) slots all = all

-- a place above those that wait is above every slot's, since the last isn't marked
below : {X : Type 0} (place_of : X → ℕ) (p : ℕ) (slots : List (Slot X)) → Rises place_of slots
    → LastHolds slots → All (λ x. place_of x < p) (waiting_in slots)
    → (k d : ℕ) → k < length (slot_places place_of slots) → get_or (slot_places place_of slots) k d < p
below place_of p [] rises last above k d within = absurd (omega arith)
below place_of p (Holds x ∷ []) rises last above zero d within = above 0 x (omega arith)
below place_of p (Holds x ∷ []) rises last above (suc k) d within = absurd (omega arith)
below place_of p (Withdrawn q ∷ []) rises last above k d within = absurd (false≢true (sym last))
below place_of p (s ∷ t ∷ r) rises last above zero d within =
    let later = below place_of p (t ∷ r) (rest_pairs ◌<◌ (slot_place place_of s) (slot_places place_of
    (t ∷ r)) rises) (sym (ap is_marked (last_behind s t r)) ∙ last) (all_behind (λ x. place_of x < p) s
    (t ∷ r) above) in
    omega (arith, later 0 d (omega arith), rises 0 1 d (omega arith) (omega arith))
below place_of p (s ∷ t ∷ r) rises last above (suc k) d within =
    below place_of p (t ∷ r) (rest_pairs ◌<◌ (slot_place place_of s) (slot_places place_of (t ∷ r)) rises)
    (sym (ap is_marked (last_behind s t r)) ∙ last) (all_behind (λ x. place_of x < p) s (t ∷ r) above) k d
    (omega arith)

first_with : {X : Type 0} (slots : List (Slot X)) (x : X) → FirstHolds slots
    → FirstHolds (slots ++ Holds x ∷ [])
first_with [] x first = refl
first_with (s ∷ slots) x first = first

pub waiting_with : {X : Type 0} (slots : List (Slot X)) (x : X)
    → waiting_in (slots ++ Holds x ∷ []) ≡ waiting_in slots ++ x ∷ []
waiting_with slots x = filter_map-append holder slots (Holds x ∷ [])

pub line_with : {X : Type 0} (place_of : X → ℕ) (slots : List (Slot X)) (n : ℕ) (x : X)
    → IsSlotLine place_of slots n → All (λ y. place_of y < place_of x) (waiting_in slots)
    → IsSlotLine place_of (slots ++ Holds x ∷ []) (n + 1)
line_with place_of slots n x is above = record {
  rises = subst (AllPairs ◌<◌) (sym (map-append (slot_place place_of) slots (Holds x ∷ [])))
      (all_pairs_push ◌<◌ (slot_places place_of slots) (place_of x) is.rises (below place_of (place_of x)
      slots is.rises is.last above));
  first = first_with slots x is.first;
  last = ap is_marked (last_of slots (Holds x));
  counted = omega (
    arith,
    is.counted,
    ap length (waiting_with slots x),
    length-append (waiting_in slots)
        (x ∷ []),
  );
  few = omega (arith, is.few, length-append slots (Holds x ∷ []));
}

-- those who wait are at most as many as the slots
pub fewer : {X : Type 0} (slots : List (Slot X)) → length (waiting_in slots) ≤ length slots
fewer [] = omega arith
fewer (Holds x ∷ slots) = omega (arith, fewer slots)
fewer (Withdrawn p ∷ slots) = omega (arith, fewer slots)
