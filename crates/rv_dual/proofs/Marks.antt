-- Marks that are taken off the ends of a line.
use Rattle.std.proofs.Common.{◌≡◌, ℕ, ◌+◌, ◌-◌, ◌<◌, true, List, [], ◌∷◌, ◌++◌, length, get_or, Option, Some}
use Rattle.std.proofs.Common.{None, refl, sym, ap, ◌∙◌, subst, arith, length-append}
use Rattle.std.specs.Prelude.{option_to_list}
use Rattle.std.specs.List.{AllPairs}
use Rattle.std.proofs.lemmas.Bool.{false≢true}
use Rattle.std.proofs.lemmas.List.{get_or_append_left, map-append}
use Rattle.std.proofs.lemmas.List.Elements.{filter_map-append}
use Rattle.std.proofs.lemmas.Option.{slice_get-get_or}
use Rattle.std.proofs.Math.Seq.{get_or-append_seam}
use Rattle.rv_dual.specs.declared.slot.Slot.{Slot}
use Rattle.rv_dual.specs.declared.slot.Slot.TheVariants.{Holds, Withdrawn}
use Rattle.rv_dual.specs.Slots.{FirstHolds, Rises, first_slot, last_slot, holder, is_marked, slot_place}
use Rattle.rv_dual.specs.Slots.{slot_places, waiting_in}
use Rattle.rv_dual.proofs.Removing.{rest_pairs}

append_none : {X : Type 0} (xs : List X) → xs ++ [] ≡ xs
append_none [] = refl
append_none (x ∷ xs) = ap (λ l. x ∷ l) (append_none xs)

pairs_before : {X : Type 0} (R : X → X → Type 0) (xs ys : List X) → AllPairs R (xs ++ ys) → AllPairs R xs
pairs_before R xs ys pairs i j d lt within =
    subst (λ a. R a (get_or xs j d)) (get_or_append_left xs ys d i (omega (arith, lt, within)))
    (subst (R (get_or (xs ++ ys) i d)) (get_or_append_left xs ys d j within)
    (pairs i j d lt (omega (arith, length-append xs ys, within))))

-- ---- at the front

pub same_behind : {X : Type 0} (old new : List (Slot X)) (r : Option (Slot X)) → old ≡ option_to_list r ++ new
    → is_marked (first_slot old) ≡ true → waiting_in new ≡ waiting_in old
same_behind old new None parts first = sym (ap waiting_in parts)
same_behind old new (Some (Holds x)) parts first =
    absurd (false≢true (ap (λ l. is_marked (first_slot l)) (sym parts) ∙ first))
same_behind old new (Some (Withdrawn p)) parts first = sym (ap waiting_in parts)

pub rises_behind : {X : Type 0} (place_of : X → ℕ) (old new : List (Slot X)) (r : Option (Slot X))
    → old ≡ option_to_list r ++ new → Rises place_of old → Rises place_of new
rises_behind place_of old new None parts rises = subst (Rises place_of) parts rises
rises_behind place_of old new (Some s) parts rises = rest_pairs ◌<◌ (slot_place place_of s)
    (slot_places place_of new) (subst (Rises place_of) parts rises)

-- ---- at the back

pub last_of : {X : Type 0} (front : List (Slot X)) (s : Slot X) → last_slot (front ++ s ∷ []) ≡ Some s
last_of front s =
    let long : length (front ++ s ∷ []) ≡ length front + 1 = length-append front (s ∷ []) in
    let at : length (front ++ s ∷ []) - 1 ≡ length front = omega (arith, long) in
    slice_get-get_or (front ++ s ∷ []) (length (front ++ s ∷ []) - 1) s (omega (arith, long))
    ∙ ap (λ i. Some (get_or (front ++ s ∷ []) i s)) at
    ∙ ap Some (get_or-append_seam front s [] s)

pub same_before : {X : Type 0} (old new : List (Slot X)) (r : Option (Slot X)) → old ≡ new ++ option_to_list r
    → is_marked (last_slot old) ≡ true → waiting_in new ≡ waiting_in old
same_before old new None parts last = ap waiting_in (sym (append_none new) ∙ sym parts)
same_before old new (Some (Holds x)) parts last =
    absurd (false≢true (sym (ap is_marked (last_of new (Holds x))) ∙ ap (λ l. is_marked (last_slot l))
    (sym parts) ∙ last))
same_before old new (Some (Withdrawn p)) parts last =
    sym (ap waiting_in parts ∙ filter_map-append holder new (Withdrawn p ∷ []) ∙ append_none (waiting_in new))

pub rises_before : {X : Type 0} (place_of : X → ℕ) (old new : List (Slot X)) (r : Option (Slot X))
    → old ≡ new ++ option_to_list r → Rises place_of old → Rises place_of new
rises_before place_of old new r parts rises =
    pairs_before ◌<◌ (slot_places place_of new) (slot_places place_of (option_to_list r))
    (subst (AllPairs ◌<◌) (ap (slot_places place_of) parts ∙ map-append (slot_place place_of) new
    (option_to_list r)) rises)

pub first_before : {X : Type 0} (old new : List (Slot X)) (r : Option (Slot X))
    → old ≡ new ++ option_to_list r → FirstHolds old → FirstHolds new
first_before old [] r parts first = refl
first_before old (s ∷ new) r parts first = ap (λ l. is_marked (first_slot l)) (sym parts) ∙ first
