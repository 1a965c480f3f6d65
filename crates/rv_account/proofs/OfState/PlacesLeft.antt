-- Lines of places: what is left where some are gone, and one more at the end.
use Rattle.rv_account.proofs.OfState.Words.{◌≡◌, ◌⊎◌, ◌<◌, ◌∷◌, ◌++◌, ◌∙◌, ◌↔◌, inl, inr, ℕ, Bool, true}
use Rattle.rv_account.proofs.OfState.Words.{false, not}
use Rattle.rv_account.proofs.OfState.Words.{List, [], Some, length, refl, sym, ap, subst, arith, nat_eq}
use Rattle.rv_account.proofs.OfState.Words.{list_any}
use Rattle.rv_account.proofs.OfState.Words.{slice_get, eq-eqb, eqb-true, true≢false, Among, IsLineOf}
use Rattle.rv_account.proofs.OfState.Words.{get-append_end}
use Rattle.rv_account.proofs.OfState.Words.{OpenPlace, place_list, but}
use Rattle.std.proofs.lemmas.List.{map-append}
use Rattle.rv_account.proofs.OfRules.Places.{get-append, get-append_cases}
use Rattle.rv_account.proofs.OfState.Filtered.{any_get, filter_all, filter_get, filter_order, get_any}
use Rattle.rv_account.proofs.OfState.Filtered.{get_filter}
use Rattle.rv_account.proofs.OfState.Filtered.{get_map, map_get}

-- ---- where one stands, its place does

pub among_place : (all : List OpenPlace) (i : ℕ) (o : OpenPlace) → slice_get all i ≡ Some o
    → Among (place_list all) o.place
among_place all i o at = (i, get_map (λ (x : OpenPlace). x.place) all i o at)

-- one stands there with this place
pub record StandsAt (all : List OpenPlace) (place : ℕ) : Type 0 where
  pub i : ℕ
  pub there : OpenPlace
  pub stands : slice_get all i ≡ Some there
  pub at_place : there.place ≡ place

pub place_among : (all : List OpenPlace) (place : ℕ) → Among (place_list all) place → StandsAt all place
place_among all place (i, at) =
    let found = map_get (λ (x : OpenPlace). x.place) all i place at in
    record {
      i = i;
      there = found.0;
      stands = found.1;
      at_place = found.2;
    }

-- ---- what is left

abbrev is_at : ℕ → OpenPlace → Bool
is_at place other = nat_eq other.place place

gone_among : (gone : List OpenPlace) (place : ℕ) → list_any (is_at place) gone ≡ true
    → Among (place_list gone) place
gone_among gone place any =
    let found = any_get (is_at place) gone any in
    subst (Among (place_list gone)) (eqb-true found.1.place place found.3)
    (among_place gone found.0 found.1 found.2)

among_gone : (gone : List OpenPlace) (place : ℕ) → Among (place_list gone) place
    → list_any (is_at place) gone ≡ true
among_gone gone place among =
    let found = place_among gone place among in
    get_any (is_at place) gone found.i found.there found.stands
    (eq-eqb found.there.place place found.at_place)

not_true : (b : Bool) → not b ≡ true → b ≡ true → ⊥
not_true true is_not is = true≢false (sym is_not)
not_true false is_not is = true≢false (sym is)

is_not : (b : Bool) → (b ≡ true → ⊥) → not b ≡ true
is_not true none = absurd (none refl)
is_not false none = refl

abbrev stays : List OpenPlace → OpenPlace → Bool
stays gone o = not (list_any (is_at o.place) gone)

pub but_get : (all gone : List OpenPlace) (i : ℕ) (o : OpenPlace) → slice_get (but all gone) i ≡ Some o
    → (j : ℕ) × (slice_get all j ≡ Some o) × (Among (place_list gone) o.place → ⊥)
but_get all gone i o at =
    let found = filter_get (stays gone) all i o at in
    (found.0, found.1, λ among. not_true _ found.2 (among_gone gone o.place among))

pub get_but : (all gone : List OpenPlace) (j : ℕ) (o : OpenPlace) → slice_get all j ≡ Some o
    → (Among (place_list gone) o.place → ⊥) → (i : ℕ) × (slice_get (but all gone) i ≡ Some o)
get_but all gone j o at apart =
    get_filter (stays gone) all j o at (is_not _ (λ any. apart (gone_among gone o.place any)))

pub but_none : (all : List OpenPlace) → but all [] ≡ all
but_none all = filter_all (stays []) all (λ o. refl)

-- ---- lines

pub line_like : (P Q : ℕ → Type 0) (places : List ℕ) → ((r : ℕ) → P r ↔ Q r) → IsLineOf P places
    → IsLineOf Q places
line_like P Q places same line =
    record {
      are = λ i r at. (same r).0 (line.are i r at);
      each = λ r holds. line.each r ((same r).1 holds);
      rising = line.rising;
    }

pub line_but : (P : ℕ → Type 0) (all gone : List OpenPlace) → IsLineOf P (place_list all)
    → IsLineOf (λ r. P r × (Among (place_list gone) r → ⊥)) (place_list (but all gone))
unfolding place_among among_place
line_but P all gone line =
    record {
      are = λ i r at.
          let left = place_among (but all gone) r (i, at) in
          let was = but_get all gone left.i left.there left.stands in
          let before = among_place all was.0 left.there was.1 in
          subst (λ n. P n × (Among (place_list gone) n → ⊥)) left.at_place
          (line.are before.0 left.there.place before.1, was.2);
      each = λ r holds.
          let was = place_among all r (line.each r holds.0) in
          let apart = subst (λ n. Among (place_list gone) n → ⊥) (sym was.at_place) holds.1 in
          let left = get_but all gone was.i was.there was.stands apart in
          subst (Among (place_list (but all gone))) was.at_place
          (among_place (but all gone) left.0 was.there left.1);
      rising = λ i j p q less first second.
          let one = place_among (but all gone) p (i, first) in
          let other = place_among (but all gone) q (j, second) in
          let order = filter_order (stays gone) all one.there other.there i j less one.stands other.stands in
          let before = among_place all order.0 one.there order.3 in
          let after = among_place all order.1 other.there order.4 in
          line.rising order.0 order.1 p q order.2
          (before.1 ∙ ap Some one.at_place) (after.1 ∙ ap Some other.at_place);
    }

push_numbers : (P : ℕ → Type 0) (places : List ℕ) (n : ℕ) → IsLineOf P places → ((r : ℕ) → P r → r < n)
    → IsLineOf (λ r. P r ⊎ (r ≡ n)) (places ++ n ∷ [])
push_numbers P places n line below =
    record {
      are = λ i r at. elim (get-append_cases places n r i at) [
        | inl inside ↦ inl (line.are i r inside.1)
        | inr last ↦ inr (sym last.1)
      ];
      each = λ r holds. elim holds [
        | inl before ↦ let at = line.each r before in (at.0, get-append places (n ∷ []) at.0 r at.1)
        | inr is ↦ (length places, get-append_end places n ∙ ap Some (sym is))
      ];
      rising = λ i j p q less first second. elim (get-append_cases places n q j second) [
        | inl inside ↦ elim (get-append_cases places n p i first) [
          | inl also ↦ line.rising i j p q less also.1 inside.1
          | inr last ↦ absurd (omega arith)
        ]
        | inr last ↦ elim (get-append_cases places n p i first) [
          | inl also ↦ subst (λ m. p < m) last.1 (below p (line.are i p also.1))
          | inr both ↦ absurd (omega arith)
        ]
      ];
    }

pub line_push : (P : ℕ → Type 0) (all : List OpenPlace) (o : OpenPlace) → IsLineOf P (place_list all)
    → ((r : ℕ) → P r → r < o.place) → IsLineOf (λ r. P r ⊎ (r ≡ o.place)) (place_list (all ++ o ∷ []))
line_push P all o line below =
    subst (IsLineOf (λ r. P r ⊎ (r ≡ o.place))) (sym (map-append (λ (x : OpenPlace). x.place) all (o ∷ [])))
    (push_numbers P (place_list all) o.place line below)
