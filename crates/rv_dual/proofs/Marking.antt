-- A line in which the slot of one who waited is marked.
use Rattle.std.proofs.Common.{◌≡◌, ℕ, zero, suc, ◌+◌, ◌<◌, Bool, true, false, cond, List, [], ◌∷◌, length}
use Rattle.std.proofs.Common.{Some, sym, ap, ◌∙◌, subst, arith}
use Rattle.std.specs.Prelude.{Contains, not, option_and_then, slice_get, slice_set}
use Rattle.std.specs.List.{AllPairs, filter}
use Rattle.std.proofs.lemmas.Bool.{false≢true, false_from_ne_true}
use Rattle.std.proofs.lemmas.Option.{same_Some, none-some, get_or_from_slice_get, slice_get_within}
use Rattle.std.proofs.lemmas.Option.{slice_get-map}
use Rattle.rv_dual.specs.declared.slot.Slot.{Slot}
use Rattle.rv_dual.specs.declared.slot.Slot.TheVariants.{Holds, Withdrawn}
use Rattle.rv_dual.specs.Entries.{PassesAt}
use Rattle.rv_dual.specs.Slots.{NoSlotAt, Rises, holder, passes_in, slot_place, slot_places, waiting_in}
use Rattle.rv_dual.proofs.Removing.{rest_pairs, without_none}
use Rattle.rv_dual.proofs.Searching.{nowhere}
use Rattle.rv_dual.proofs.Found.{contains_at}

held : {X : Type 0} (test : X → Bool) (s : Slot X) (out : X) → passes_in test s ≡ true → Some out ≡ holder s
    → (s ≡ Holds out) × (test out ≡ true)
held test (Holds x) out passes is = (ap Holds (sym (same_Some _ _ is)), ap test (same_Some _ _ is) ∙ passes)
held test (Withdrawn p) out passes is = absurd (false≢true passes)

-- who comes out of a slot that passes is who waited there
pub held_at : {X : Type 0} (test : X → Bool) (slots : List (Slot X)) (i : ℕ) (out : X)
    → PassesAt (passes_in test) slots i → Some out ≡ option_and_then holder (slice_get slots i)
    → (slice_get slots i ≡ Some (Holds out)) × (test out ≡ true)
held_at test slots i out at is =
    let both = held test at.element out at.passes (is ∙ ap (option_and_then holder) at.there) in
    (at.there ∙ ap Some both.0, both.1)

inside : {X : Type 0} (slots : List (Slot X)) (i : ℕ) (x : X) → slice_get slots i ≡ Some (Holds x)
    → (j : ℕ) × (slice_get (waiting_in slots) j ≡ Some x)
inside [] i x there = absurd (none-some _ there)
inside (Holds y ∷ slots) zero x there = (0, ap (option_and_then holder) there)
inside (Holds y ∷ slots) (suc i) x there = let at = inside slots i x there in (suc at.0, at.1)
inside (Withdrawn q ∷ slots) zero x there = absurd (none-some _ (ap (option_and_then holder) there))
inside (Withdrawn q ∷ slots) (suc i) x there = inside slots i x there

pub waits_there : {X : Type 0} (slots : List (Slot X)) (i : ℕ) (x : X) → slice_get slots i ≡ Some (Holds x)
    → Contains (waiting_in slots) x
waits_there slots i x there = let at = inside slots i x there in contains_at (waiting_in slots) at.0 x at.1

pub one_fewer : {X : Type 0} (slots : List (Slot X)) (i p : ℕ) (x : X) → slice_get slots i ≡ Some (Holds x)
    → length (waiting_in (slice_set slots i (Withdrawn p))) + 1 ≡ length (waiting_in slots)
one_fewer [] i p x there = absurd (none-some _ there)
one_fewer (Holds y ∷ slots) zero p x there = omega arith
one_fewer (Holds y ∷ slots) (suc i) p x there = omega (arith, one_fewer slots i p x there)
one_fewer (Withdrawn q ∷ slots) zero p x there = absurd (none-some _ (ap (option_and_then holder) there))
one_fewer (Withdrawn q ∷ slots) (suc i) p x there = one_fewer slots i p x there

module _ {X : Type 0} (place_of : X → ℕ) (p : ℕ) where
  same_places : (slots : List (Slot X)) (i : ℕ) (x : X) → slice_get slots i ≡ Some (Holds x) → place_of x ≡ p
      → slot_places place_of (slice_set slots i (Withdrawn p)) ≡ slot_places place_of slots
  same_places [] i x there at = absurd (none-some _ there)
  same_places (s ∷ slots) zero x there at = ap (λ q. q ∷ slot_places place_of slots)
      (sym (ap (slot_place place_of) (same_Some _ _ there) ∙ at))
  same_places (s ∷ slots) (suc i) x there at = ap (λ l. slot_place place_of s ∷ l) (same_places slots i x
      there at)

  pub rises_marked : (slots : List (Slot X)) (i : ℕ) (x : X) → slice_get slots i ≡ Some (Holds x)
      → place_of x ≡ p → Rises place_of slots → Rises place_of (slice_set slots i (Withdrawn p))
  rises_marked slots i x there at rises = subst (AllPairs ◌<◌) (sym (same_places slots i x there at)) rises

  -- no slot after the first has its place
  none_behind : (s : Slot X) (slots : List (Slot X)) → slot_place place_of s ≡ p → Rises place_of (s ∷ slots)
      → NoSlotAt place_of p slots
  none_behind s slots at rises = λ k d within same. omega (
    arith,
    at,
    same,
    rises 0 (suc k) d (omega arith)
        (omega (arith, within)),
  )

  first_below : (s : Slot X) (slots : List (Slot X)) (i : ℕ) (x : X) → slice_get slots i ≡ Some (Holds x)
      → place_of x ≡ p → Rises place_of (s ∷ slots) → slot_place place_of s < p
  first_below s slots i x there at rises =
      let own : slice_get (slot_places place_of slots) i ≡ Some p = slice_get-map (slot_place place_of) slots
      i ∙ ap (λ o. option_and_then (λ (t : Slot X). Some (slot_place place_of t)) o) there ∙ ap Some at in
      omega (
        arith,
        rises 0 (suc i) 0 (omega arith)
            (omega (arith, slice_get_within (slot_places place_of slots) i p own)),
        get_or_from_slice_get
            (slot_places place_of slots) i p 0 own,
      )

module _ {X : Type 0} (place_of : X → ℕ) (p : ℕ) (test : X → Bool) (law : (x : X) → test x ≡ true
    → place_of x ≡ p) where
  pub waiting_marked : (slots : List (Slot X)) (i : ℕ) (x : X) → Rises place_of slots
      → slice_get slots i ≡ Some (Holds x) → test x ≡ true
      → waiting_in (slice_set slots i (Withdrawn p)) ≡ filter (λ y. not (test y)) (waiting_in slots)
  waiting_marked [] i x rises there passes = absurd (none-some _ there)
  waiting_marked (Holds y ∷ slots) zero x rises there passes =
      let own : test y ≡ true = ap test (same_Some _ _ (ap (option_and_then holder) there)) ∙ passes in
      without_none test (waiting_in slots) (nowhere place_of p test law slots (none_behind place_of p
      (Holds y) slots (law y own) rises))
      ∙ sym (ap (λ b. cond (not b) (y ∷ filter (λ z. not (test z)) (waiting_in slots))
      (filter (λ z. not (test z)) (waiting_in slots))) own)
  waiting_marked (Holds y ∷ slots) (suc i) x rises there passes =
      let below : place_of y < p = first_below place_of p (Holds y) slots i x there (law x passes) rises in
      let other : test y ≡ false = false_from_ne_true (test y) (λ too. omega (arith, below, law y too)) in
      ap (λ rest. y ∷ rest) (waiting_marked slots i x (rest_pairs ◌<◌ (place_of y) (slot_places place_of
      slots) rises) there passes)
      ∙ sym (ap (λ b. cond (not b) (y ∷ filter (λ z. not (test z)) (waiting_in slots))
      (filter (λ z. not (test z)) (waiting_in slots))) other)
  waiting_marked (Withdrawn q ∷ slots) zero x rises there passes =
      absurd (none-some _ (ap (option_and_then holder) there))
  waiting_marked (Withdrawn q ∷ slots) (suc i) x rises there passes = waiting_marked slots i x
      (rest_pairs ◌<◌ q (slot_places place_of slots) rises) there passes

-- ---- the first
