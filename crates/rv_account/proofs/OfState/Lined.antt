-- Of a line of open places those that pass a test are a line too, and so the open places of a side are that
-- side's.
use Rattle.rv_account.proofs.OfState.Words.{◌≡◌, ◌+◌, ◌<◌, ◌∙◌, ℕ, List, Bool, true, length, Some, refl}
use Rattle.rv_account.proofs.OfState.Words.{sym, ap, subst}
use Rattle.rv_account.proofs.OfState.Words.{arith, filter, slice_get, NumberOf, IsLineOf, within, OpenPlace}
use Rattle.rv_account.proofs.OfState.Words.{place_list}
use Rattle.std.specs.List.{slice_index}
use Rattle.std.proofs.lemmas.Option.{get_or_from_slice_get, slice_get-get_or}
use Rattle.rv_account.proofs.OfState.Filtered.{filter_get, get_filter, get_map, map_get, rises_left}

-- ---- the places of a line

-- an open place of a line stands at its place
pub line_has : (P : ℕ → Type 0) (all : List OpenPlace) → IsLineOf P (place_list all)
    → (i : ℕ) (there : OpenPlace) → slice_get all i ≡ Some there → P there.place
line_has P all is i there at = is.are i there.place (get_map (λ (o : OpenPlace). o.place) all i there at)

-- and each place has one
pub has_line : (P : ℕ → Type 0) (all : List OpenPlace) → IsLineOf P (place_list all) → (r : ℕ) → P r
    → (i : ℕ) × (there : OpenPlace) × (slice_get all i ≡ Some there) × (there.place ≡ r)
has_line P all is r holds =
    let at = is.each r holds in
    let found = map_get (λ (o : OpenPlace). o.place) all at.0 r at.1 in
    (at.0, found.0, found.1, found.2)

-- ---- those that pass a test

module _ (P Q : ℕ → Type 0) (p : OpenPlace → Bool) (all : List OpenPlace) (is : IsLineOf P (place_list all))
    (passes : (i : ℕ) (there : OpenPlace) → slice_get all i ≡ Some there → p there ≡ true → Q there.place)
    (fits : (i : ℕ) (there : OpenPlace) → slice_get all i ≡ Some there → Q there.place → p there ≡ true)
    (leads : (r : ℕ) → Q r → P r) where
  left_are : (i r : ℕ) → slice_get (place_list (filter p all)) i ≡ Some r → Q r
  left_are i r at =
      let there = map_get (λ (o : OpenPlace). o.place) (filter p all) i r at in
      let was = filter_get p all i there.0 there.1 in
      subst Q there.2 (passes was.0 there.0 was.1 was.2)

  left_each : (r : ℕ) → Q r → (i : ℕ) × (slice_get (place_list (filter p all)) i ≡ Some r)
  left_each r holds =
      let was = has_line P all is r (leads r holds) in
      let left = get_filter p all was.0 was.1 was.2 (fits was.0 was.1 was.2 (subst Q (sym was.3) holds)) in
      (left.0, get_map (λ (o : OpenPlace). o.place) (filter p all) left.0 was.1 left.1 ∙ ap Some was.3)

  rises : (i j : ℕ) (x y : OpenPlace) → i < j → slice_get all i ≡ Some x → slice_get all j ≡ Some y
      → x.place < y.place
  rises i j x y less at there =
      is.rising i j x.place y.place less (get_map (λ (o : OpenPlace). o.place) all i x at)
      (get_map (λ (o : OpenPlace). o.place) all j y there)

  left_rise : (i j q r : ℕ) → i < j → slice_get (place_list (filter p all)) i ≡ Some q
      → slice_get (place_list (filter p all)) j ≡ Some r → q < r
  left_rise i j q r less at there =
      let first = map_get (λ (o : OpenPlace). o.place) (filter p all) i q at in
      let second = map_get (λ (o : OpenPlace). o.place) (filter p all) j r there in
      let below : first.0.place < second.0.place =
      rises_left p (λ (o : OpenPlace). o.place) all rises i j first.0 second.0 less first.1 second.1 in
      let from : first.0.place ≡ q = first.2 in
      let to : second.0.place ≡ r = second.2 in
      omega arith

  -- of a line those that pass are the line of a property, where the test tells that
  pub line_left : IsLineOf Q (place_list (filter p all))
  line_left = record { are = left_are; each = left_each; rising = left_rise }

-- ---- how many

-- a line has as many places as have its property
abbrev pub line_count : (P : ℕ → Type 0) (places : List ℕ) → IsLineOf P places → NumberOf P (length places)
line_count P places is = record {
  places = places;
  rising = λ k less.
      let here : slice_get places k ≡ Some (slice_index places k) =
      slice_get-get_or places k 0 (omega arith) in
      let next : slice_get places (k + 1) ≡ Some (slice_index places (k + 1)) =
      slice_get-get_or places (k + 1) 0 less in
      is.rising k (k + 1) (slice_index places k) (slice_index places (k + 1)) (omega arith) here next;
  are = λ r. (
    (λ there. is.are there.0 r (slice_get-get_or places there.0 r there.1 ∙ ap Some there.2)),
    (λ holds. let there =
        is.each r holds in
        (there.0, within places there.0 r there.1, get_or_from_slice_get places there.0 r r there.1)),
  );
  is = refl;
}
