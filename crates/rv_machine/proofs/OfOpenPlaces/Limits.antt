-- The deadlines of what is open: what they become where a place is opened or closed, and which is the least.
use Rattle.std.proofs.Common.{◌≡◌, ◌++◌, ◌∷◌, ◌∙◌, ◌||◌, ◌&&◌, ℕ, List, [], Bool}
use Rattle.std.proofs.Common.{true, false, not, Option, Some, None, refl, sym, ap}
use Rattle.std.proofs.Common.{slice_get, nat_eq}
use Rattle.std.specs.Prelude.{filter_map, option_map}
use Rattle.std.specs.List.{list_any}
use Rattle.std.specs.FinSet.{contains-from_list, contains-remove, from_list}
use Rattle.std.specs.FinSet.{from_list_push, remove, same_set}
use Rattle.std.specs.Cmp.{Equal-is}
use Rattle.std.specs.Ordering.{eq_by_cmp}
use Rattle.std.proofs.lemmas.Bool.{true≢false}
use Rattle.std.proofs.lemmas.Cmp.{eq_by_cmp_equiv}
use Rattle.std.proofs.lemmas.List.{append-nil}
use Rattle.std.proofs.lemmas.List.Elements.{filter_map-append}
use Rattle.rv_due.specs.Deadlines.{Deadline, by_moment}
use Rattle.rv_due.proofs.Order.{by_moment_total, by_moment-IsAntisymmetric}
use Rattle.rv_account.specs.state.State.{OpenPlace}
use Rattle.rv_account.specs.state.After.{deadline_of_place}
use Rattle.rv_account.proofs.OfState.Filtered.{any_get, filter_get, filter_map_get}
use Rattle.rv_account.proofs.OfState.Filtered.{mapped_there}
use Rattle.std.proofs.lemmas.Bool.{eq-eqb}
use Rattle.rv_account.proofs.OfState.Words.{cons_option}
use Rattle.rv_machine.specs.open_places.OpenMap.{deadlines_in, with_limit, all_but, without_limit}
use Rattle.rv_machine.proofs.OfOpenPlaces.Parted.{PartedAt}

-- ---- sets of deadlines

same_deadline : (q x : Deadline) → eq_by_cmp by_moment q x ≡ true → q ≡ x
same_deadline q x e = by_moment-IsAntisymmetric q x ((Equal-is (by_moment q x)).0 e)

pub own_test : (x : Deadline) → eq_by_cmp by_moment x x ≡ true
own_test x = (eq_by_cmp_equiv by_moment_total).refl x

-- ---- one more

pub limits_more : (all : List OpenPlace) (o : OpenPlace)
    → deadlines_in (all ++ o ∷ []) ≡ with_limit o.limit o.place (deadlines_in all)
limits_more all o =
    ap (λ (ds : List Deadline). from_list {R = by_moment} ds) (filter_map-append deadline_of_place all
    (o ∷ []))
    ∙ by_limit o.limit
  where
    by_limit : (limit : Option ℕ)
        → from_list {R = by_moment} (filter_map deadline_of_place all ++ filter_map
        (λ (x : Option ℕ). option_map (λ l. (l, o.place)) x) (limit ∷ []))
        ≡ with_limit limit o.place (deadlines_in all)
    by_limit None = ap (λ (ds : List Deadline). from_list {R = by_moment} ds) (append-nil _)
    by_limit (Some limit) =
        from_list_push by_moment_total by_moment-IsAntisymmetric (filter_map deadline_of_place all)
        (limit, o.place)

-- ---- one less

any_append : {X : Type 0} (p : X → Bool) (xs ys : List X)
    → list_any p (xs ++ ys) ≡ (list_any p xs || list_any p ys)
any_append p [] ys = refl
any_append p (x ∷ xs) ys = ap (λ b. p x || b) (any_append p xs ys) ∙ or_three (p x) (list_any p xs)
    (list_any p ys)
  where
    or_three : (a b c : Bool) → (a || (b || c)) ≡ ((a || b) || c)
    or_three true b c = refl
    or_three false b c = refl

-- a deadline of open places is that of one with its place
pub listed_place : (all : List OpenPlace) (d : Deadline)
    → list_any (eq_by_cmp by_moment d) (filter_map deadline_of_place all) ≡ true
    → (i : ℕ) × (o : OpenPlace) × (slice_get all i ≡ Some o) × (o.place ≡ d.1) × (o.limit ≡ Some d.0)
listed_place all d any =
    let found = any_get (eq_by_cmp by_moment d) (filter_map deadline_of_place all) any in
    let from = filter_map_get deadline_of_place all found.0 found.1 found.2 in
    let o : OpenPlace = from.1 in
    let is = mapped_there (λ (l : ℕ). let x : Deadline = (l, o.place) in x) o.limit d
    (from.3 ∙ ap Some (sym (same_deadline d found.1 found.3))) in (
      from.0,
      o,
      from.2,
      ap (λ (x : Deadline). x.1) is.2,
      is.1 ∙ ap (λ (x : Deadline). Some x.0) is.2,
    )

pub left_apart : (all : List OpenPlace) (place i : ℕ) (o : OpenPlace)
    → slice_get (all_but all place) i ≡ Some o → o.place ≡ place → ⊥
left_apart all place i o at same =
    let was = filter_get (λ (x : OpenPlace). not (nat_eq x.place place)) all i o at in
    true≢false (sym was.2 ∙ ap not (eq-eqb o.place place same))

-- a deadline at the place that is left out is of none that is left
pub not_listed : (all : List OpenPlace) (place : ℕ) (d : Deadline) → d.1 ≡ place
    → list_any (eq_by_cmp by_moment d) (filter_map deadline_of_place (all_but all place)) ≡ true → ⊥
not_listed all place d at any =
    let found = listed_place (all_but all place) d any in
    left_apart all place found.0 found.1 found.2 (found.3 ∙ at)

none_of : (b : Bool) → (b ≡ true → ⊥) → b ≡ false
none_of true none = absurd (none refl)
none_of false none = refl

module _ (all : List OpenPlace) (place : ℕ) (there : OpenPlace) (at : PartedAt all place there) where
  abbrev in_front : Deadline → Bool
  in_front q = list_any (eq_by_cmp by_moment q) (filter_map deadline_of_place at.front)

  abbrev is_behind : Deadline → Bool
  is_behind q = list_any (eq_by_cmp by_moment q) (filter_map deadline_of_place at.behind)

  any_left : (q : Deadline)
      → list_any (eq_by_cmp by_moment q) (filter_map deadline_of_place (all_but all place))
      ≡ (in_front q || is_behind q)
  any_left q =
      ap (λ l. list_any (eq_by_cmp by_moment q) (filter_map deadline_of_place l)) at.others
      ∙ ap (list_any (eq_by_cmp by_moment q)) (filter_map-append deadline_of_place at.front at.behind)
      ∙ any_append (eq_by_cmp by_moment q) (filter_map deadline_of_place at.front)
      (filter_map deadline_of_place at.behind)

  listed : filter_map deadline_of_place all
      ≡ filter_map deadline_of_place at.front
      ++ filter_map deadline_of_place (there ∷ at.behind)
  listed = ap (filter_map deadline_of_place) at.whole
      ∙ filter_map-append deadline_of_place at.front (there ∷ at.behind)

  -- where it has no limit the deadlines stay
  unlimited : there.limit ≡ None → filter_map deadline_of_place all
      ≡ filter_map deadline_of_place (all_but all place)
  unlimited none =
      listed
      ∙ ap (λ (l : Option ℕ). filter_map deadline_of_place at.front
      ++ cons_option (option_map (λ x. (x, there.place)) l) (filter_map deadline_of_place at.behind)) none
      ∙ sym (filter_map-append deadline_of_place at.front at.behind)
      ∙ ap (filter_map deadline_of_place) (sym at.others)

  module _ (limit : ℕ) (has : there.limit ≡ Some limit) where
    abbrev its : Deadline
    its = (limit, place)

    listed_its : filter_map deadline_of_place all
        ≡ filter_map deadline_of_place at.front ++ its ∷ filter_map deadline_of_place at.behind
    listed_its =
        listed
        ∙ ap (λ (l : Option ℕ). filter_map deadline_of_place at.front
        ++ cons_option (option_map (λ x. (x, there.place)) l) (filter_map deadline_of_place at.behind)) has
        ∙ ap (λ (p : ℕ). filter_map deadline_of_place at.front
        ++ (limit, p) ∷ filter_map deadline_of_place at.behind) at.at_place

    or_between : (a b c : Bool) → (a || (b || c)) ≡ (b || (a || c))
    or_between true true c = refl
    or_between true false c = refl
    or_between false b c = refl

    -- a deadline is its own or one of those left
    pub any_parted : (q : Deadline)
        → list_any (eq_by_cmp by_moment q) (filter_map deadline_of_place all)
        ≡ (eq_by_cmp by_moment q its
        || list_any (eq_by_cmp by_moment q) (filter_map deadline_of_place (all_but all place)))
    any_parted q =
        ap (list_any (eq_by_cmp by_moment q)) listed_its
        ∙ any_append (eq_by_cmp by_moment q) (filter_map deadline_of_place at.front)
        (its ∷ filter_map deadline_of_place at.behind)
        ∙ or_between (in_front q) (eq_by_cmp by_moment q its) (is_behind q)
        ∙ ap (λ b. eq_by_cmp by_moment q its || b) (sym (any_left q))

    by_own : (q : Deadline) (own : Bool) → eq_by_cmp by_moment q its ≡ own → (left : Bool)
        → list_any (eq_by_cmp by_moment q) (filter_map deadline_of_place (all_but all place)) ≡ left
        → (not own && (own || left)) ≡ left
    by_own q true is left any =
        sym (none_of left (λ yes. not_listed all place q (ap (λ (x : Deadline). x.1)
        (same_deadline q its is)) (any ∙ yes)))
    by_own q false is left any = refl

    removed_its : remove (deadlines_in all) its ≡ deadlines_in (all_but all place)
    removed_its = same_set by_moment_total by_moment-IsAntisymmetric _ _ (λ q.
        contains-remove by_moment_total (deadlines_in all) its q
        ∙ ap (λ b. not (eq_by_cmp by_moment q its) && b)
        (contains-from_list by_moment_total (filter_map deadline_of_place all) q ∙ any_parted q)
        ∙ by_own q (eq_by_cmp by_moment q its) refl _ refl
        ∙ sym (contains-from_list by_moment_total (filter_map deadline_of_place (all_but all place)) q))

  less_by : (o : Option ℕ) → there.limit ≡ o
      → without_limit o place (deadlines_in all) ≡ deadlines_in (all_but all place)
  less_by None none = ap (λ (ds : List Deadline). from_list {R = by_moment} ds) (unlimited none)
  less_by (Some limit) has = removed_its limit has

  pub limits_less : without_limit there.limit place (deadlines_in all) ≡ deadlines_in (all_but all place)
  limits_less = less_by there.limit refl
