-- What a binary search over the places of a line finds.
use Rattle.std.proofs.Common.{◌≡◌, inl, inr, ℕ, zero, suc, ◌<◌, ◌≤◌, Bool, true, false, List, [], ◌∷◌, length}
use Rattle.std.proofs.Common.{map, get_or, Option, Some, None, Result, Ok, Err, refl, sym, ap, ◌∙◌, subst}
use Rattle.std.proofs.Common.{arith}
use Rattle.std.specs.Prelude.{IfSome, IfNone, option_map, slice_get}
use Rattle.std.specs.List.{AllPairs}
use Rattle.std.specs.List.Sorted.{IsSearchInRange, IsBinarySearchResult, IsNonDecreasingBy}
use Rattle.std.specs.Ordering.{nat_cmp, ordering_index}
use Rattle.std.specs.Bool.{then_some}
use Rattle.std.specs.Result.{result_ok}
use Rattle.std.proofs.lemmas.Bool.{cases_lt, false≢true, false_from_ne_true}
use Rattle.std.proofs.lemmas.Bool.Decides.{nat_tests}
use Rattle.std.proofs.lemmas.Cmp.{ranked}
use Rattle.std.proofs.lemmas.List.Sorted.{IsNonDecreasingBy-from_default}
use Rattle.std.proofs.lemmas.Option.{same_Some, none-some, get_or_from_slice_get, slice_get_within}
use Rattle.std.proofs.lemmas.Option.{slice_get-get_or, slice_get-map}
use Rattle.rv_dual.specs.declared.slot.Slot.{Slot}
use Rattle.rv_dual.specs.declared.slot.Slot.TheVariants.{Holds, Withdrawn}
use Rattle.rv_dual.specs.Entries.{PassesAt, PassesNowhere}
use Rattle.rv_dual.specs.Slots.{NoSlotAt, Rises, passes_in, slot_place, slot_places, waiting_in}

pub map_long : {X Y : Type 0} (f : X → Y) (xs : List X) → length (map f xs) ≡ length xs
map_long f [] = refl
map_long f (x ∷ xs) = ap suc (map_long f xs)

pub at_map : {X : Type 0} (f : X → ℕ) (xs : List X) (k d : ℕ) (e : X) → k < length xs
    → get_or (map f xs) k d ≡ f (get_or xs k e)
at_map f [] k d e within = absurd (omega arith)
at_map f (x ∷ xs) zero d e within = refl
at_map f (x ∷ xs) (suc k) d e within = at_map f xs k d e (omega arith)

compared : (a b p : ℕ) → a ≤ b → ordering_index (nat_cmp a p) ≤ ordering_index (nat_cmp b p)
compared a b p le = grind (arith, nat_tests)

module _ {X : Type 0} (place_of : X → ℕ) (slots : List (Slot X)) (p : ℕ) where
  pub not_above : Rises place_of slots → (i j : ℕ) → i ≤ j → j < length slots
      → slot_place place_of (get_or slots i (Withdrawn 0)) ≤ slot_place place_of
      (get_or slots j (Withdrawn 0))
  not_above rises i j le within = elim (cases_lt i j) [
    | inl lt ↦ omega (
      arith,
      rises i j 0 lt (omega (arith, map_long (slot_place place_of) slots, within)),
      at_map (slot_place place_of) slots i 0 (Withdrawn 0) (omega (arith, lt, within)),
      at_map
          (slot_place place_of) slots j 0 (Withdrawn 0) within,
    )
    | inr ge ↦ (let same : i ≡ j = omega (arith, le, ge) in let e =
        ap (λ k. slot_place place_of (get_or slots k (Withdrawn 0))) same in omega (arith, e))
  ]

  searchable : Rises place_of slots
      → IsNonDecreasingBy (λ s. ordering_index (nat_cmp (slot_place place_of s) p)) slots
  searchable rises = IsNonDecreasingBy-from_default (λ s. ordering_index (nat_cmp (slot_place place_of s) p))
      slots (Withdrawn 0)
      (λ i j le within. compared _ _ p (not_above rises i j le within))

  pub found_slot : (r : Result ℕ ℕ) → IsSearchInRange r (length slots)
      → IsBinarySearchResult (λ s. nat_cmp (slot_place place_of s) p) slots r
      → IfSome (result_ok r) (λ i. slice_get (slot_places place_of slots) i ≡ Some p)
  found_slot (Ok i) within equal =
      slice_get-map (slot_place place_of) slots i
      ∙ ap (option_map (slot_place place_of)) (slice_get-get_or slots i (Withdrawn 0) within)
      ∙ ap Some (ranked _ p _ (sym (equal (Withdrawn 0))))
  found_slot (Err i) within parted = tt

  pub no_slot : (r : Result ℕ ℕ) → Rises place_of slots → IsSearchInRange r (length slots)
      → IsBinarySearchResult (λ s. nat_cmp (slot_place place_of s) p) slots r
      → IfNone (result_ok r) (NoSlotAt place_of p slots)
  no_slot (Ok i) rises within equal = tt
  no_slot (Err i) rises within parted = λ k d inside same.
      let parts = parted (searchable rises) in
      let below : k < length slots = omega (arith, inside, map_long (slot_place place_of) slots) in
      let own : slot_place place_of (get_or slots k (Withdrawn 0)) ≡ p =
      sym (at_map (slot_place place_of) slots k d (Withdrawn 0) below) ∙ same in
      elim (cases_lt k i) [
        | inl lt ↦ omega (
          arith,
          own,
          ranked (slot_place place_of (get_or slots k (Withdrawn 0))) p _
              (sym (parts.0 k (Withdrawn 0) (omega arith) lt)),
        )
        | inr ge ↦ omega (
          arith,
          own,
          ranked (slot_place place_of (get_or slots k (Withdrawn 0))) p _
              (sym (parts.1 k (Withdrawn 0) ge below)),
        )
      ]

  pub slot_within : (i : ℕ) → slice_get (slot_places place_of slots) i ≡ Some p → i < length slots
  slot_within i there = omega (
    arith,
    slice_get_within (slot_places place_of slots) i p there,
    map_long
        (slot_place place_of) slots,
  )

-- ---- who waits, and in which slot

in_slots : {X : Type 0} (slots : List (Slot X)) (i : ℕ) (x : X) → slice_get (waiting_in slots) i ≡ Some x
    → (j : ℕ) × (slice_get slots j ≡ Some (Holds x))
in_slots [] i x there = absurd (none-some _ there)
in_slots (Holds y ∷ slots) zero x there = (0, ap (λ z. Some (Holds z)) (same_Some _ _ there))
in_slots (Holds y ∷ slots) (suc i) x there = let at = in_slots slots i x there in (suc at.0, at.1)
in_slots (Withdrawn q ∷ slots) i x there = let at = in_slots slots i x there in (suc at.0, at.1)

same_index : (ps : List ℕ) (i j p : ℕ) → AllPairs ◌<◌ ps → slice_get ps i ≡ Some p → slice_get ps j ≡ Some p
    → i ≡ j
same_index ps i j p pairs one two =
    let a : get_or ps i 0 ≡ p = get_or_from_slice_get ps i p 0 one in
    let b : get_or ps j 0 ≡ p = get_or_from_slice_get ps j p 0 two in
    elim (cases_lt i j) [
      | inl lt ↦ absurd (omega (arith, a, b, pairs i j 0 lt (slice_get_within ps j p two)))
      | inr ge ↦ elim (cases_lt j i) [
        | inl lt ↦ absurd (omega (arith, a, b, pairs j i 0 lt (slice_get_within ps i p one)))
        | inr le ↦ omega (arith, ge, le)
      ]
    ]

module _ {X : Type 0} (place_of : X → ℕ) (p : ℕ) (test : X → Bool) (law : (x : X) → test x ≡ true
    → place_of x ≡ p) where
  place_in : (slots : List (Slot X)) (j : ℕ) (x : X) → slice_get slots j ≡ Some (Holds x) → test x ≡ true
      → slice_get (slot_places place_of slots) j ≡ Some p
  place_in slots j x there passes = slice_get-map (slot_place place_of) slots j
      ∙ ap (option_map (slot_place place_of)) there ∙ ap Some (law x passes)

  pub nowhere : (slots : List (Slot X)) → NoSlotAt place_of p slots → PassesNowhere test (waiting_in slots)
  nowhere slots none i x there = false_from_ne_true (test x) (λ passes.
      let at = in_slots slots i x there in
      let own = place_in slots at.0 x at.1 passes in
      none at.0 0 (slice_get_within _ _ _ own) (get_or_from_slice_get _ at.0 p 0 own))

  nowhere_else : (slots : List (Slot X)) (i : ℕ) (s : Slot X) → Rises place_of slots
      → slice_get (slot_places place_of slots) i ≡ Some p → slice_get slots i ≡ Some s
      → passes_in test s ≡ false → PassesNowhere test (waiting_in slots)
  nowhere_else slots i s rises there is fails k x inside = false_from_ne_true (test x) (λ passes.
      let at = in_slots slots k x inside in
      let same : at.0 ≡ i = same_index (slot_places place_of slots) at.0 i p rises (place_in slots at.0 x at.1
      passes) there in
      let it : slice_get slots i ≡ Some (Holds x) = subst (λ j. slice_get slots j ≡ Some (Holds x)) same at.1
      in
      let slot : s ≡ Holds x = same_Some _ _ (sym is ∙ it) in
      false≢true (sym fails ∙ ap (passes_in test) slot ∙ passes))

  pub found_at : (slots : List (Slot X)) (i : ℕ) (s : Slot X) (b : Bool) → slice_get slots i ≡ Some s
      → b ≡ passes_in test s
      → IfSome (then_some b i) (PassesAt (passes_in test) slots)
  found_at slots i s true is passes = record { element = s; there = is; passes = sym passes }
  found_at slots i s false is passes = tt

  pub none_at : (slots : List (Slot X)) (i : ℕ) (s : Slot X) (b : Bool) → Rises place_of slots
      → slice_get (slot_places place_of slots) i ≡ Some p → slice_get slots i ≡ Some s
      → b ≡ passes_in test s → IfNone (then_some b i) (PassesNowhere test (waiting_in slots))
  none_at slots i s true rises there is passes = tt
  none_at slots i s false rises there is passes = nowhere_else slots i s rises there is (sym passes)

pub if_none : {A P : Type 0} (o : Option A) → P → IfNone o P
if_none None p = p
if_none (Some x) p = tt
