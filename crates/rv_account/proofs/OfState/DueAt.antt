-- The open places that are due at a moment are those whose limit is there and at or below it.
use Rattle.rv_account.proofs.OfState.Words.{◌≡◌, ◌≤◌, ◌∷◌, ◌∙◌, ℕ, Bool, true, false, not, List, [], map}
use Rattle.rv_account.proofs.OfState.Words.{Option, Some}
use Rattle.rv_account.proofs.OfState.Words.{None, refl, sym, ap, subst, nat_eq, list_any, slice_get, keys}
use Rattle.rv_account.proofs.OfState.Words.{eq-eqb}
use Rattle.rv_account.proofs.OfState.Words.{eqb-true, true≢false, none-some, same_Some, Among, OpenPlace}
use Rattle.rv_account.proofs.OfState.Words.{State}
use Rattle.rv_account.proofs.OfState.Words.{open_at, place_list, due_at}
use Rattle.std.proofs.Common.{is_some}
use Rattle.std.specs.Prelude.{filter, filter_map, nat_lt, option_map}
use Rattle.std.specs.Cmp.{Equal-is}
use Rattle.std.specs.FinMap.{contains_key-keys, from_entries, get-from_entries}
use Rattle.std.specs.FinMap.Entries.{is_some-find}
use Rattle.std.specs.Ordering.{eq_by_cmp}
use Rattle.std.proofs.lemmas.Bool.{le-ltb, ltb-false}
use Rattle.std.proofs.lemmas.Cmp.{eq_by_cmp_equiv}
use Rattle.rv_due.specs.Deadlines.{Deadline, by_moment}
use Rattle.rv_due.proofs.Order.{by_moment-IsAntisymmetric, by_moment_total}
use Rattle.rv_account.specs.state.After.{deadline_of_place, limits_of}
use Rattle.rv_account.proofs.OfState.Filtered.{any_get, filter_get, filter_map_get, find_get, get_any}
use Rattle.rv_account.proofs.OfState.Filtered.{get_filter}
use Rattle.rv_account.proofs.OfState.Filtered.{get_filter_map, get_find}
use Rattle.rv_account.proofs.OfState.PlacesLeft.{among_place, place_among}

-- ---- the map of a list has what stands there

abbrev same_as : Deadline → Deadline → Bool
same_as d other = eq_by_cmp by_moment d other

one_of : (first second : List Deadline)
    → ((d : Deadline) → list_any (same_as d) first ≡ list_any (same_as d) second) → (i : ℕ) (d : Deadline)
    → slice_get first i ≡ Some d → (j : ℕ) × (slice_get second j ≡ Some d)
one_of first second same i d at =
    let own = get_any (same_as d) first i d at ((eq_by_cmp_equiv by_moment_total).refl d) in
    let found = any_get (same_as d) second (sym (same d) ∙ own) in
    let equal = (Equal-is (by_moment d found.1)).0 found.3 in
    let is : d ≡ found.1 = by_moment-IsAntisymmetric d found.1 equal in
    (found.0, found.2 ∙ ap Some (sym is))

abbrev marked : List Deadline → List (Deadline × Unit {0})
marked list = map (λ d. (d, tt)) list

keys_marked : (list : List Deadline) → map (λ e. e.0) (marked list) ≡ list
keys_marked [] = refl
keys_marked (d ∷ list) = ap (λ l. d ∷ l) (keys_marked list)

in_set : (list : List Deadline) (d : Deadline)
    → list_any (same_as d) (keys (from_entries {R = by_moment} (marked list))) ≡ list_any (same_as d) list
in_set list d =
    sym (contains_key-keys (from_entries {R = by_moment} (marked list)) d)
    ∙ ap is_some (get-from_entries by_moment_total (marked list) d)
    ∙ is_some-find by_moment d (marked list)
    ∙ ap (list_any (same_as d)) (keys_marked list)

-- ---- limits

limit_and_place : (o : OpenPlace) (limit : Option ℕ) (d : Deadline)
    → option_map (λ l. (l, o.place)) limit ≡ Some d → (limit ≡ Some d.0) × (o.place ≡ d.1)
limit_and_place o None d gives = absurd (none-some d gives)
limit_and_place o (Some l) d gives =
    let same = same_Some _ _ gives in
    (ap (λ (x : Deadline). Some x.0) same, ap (λ (x : Deadline). x.1) same)

abbrev until : ℕ → Deadline → Bool
until moment d = not (nat_lt moment d.0)

passed : (moment limit : ℕ) → not (nat_lt moment limit) ≡ true → limit ≤ moment
passed moment limit is = ltb-false moment limit (was_false _ is)
  where
    was_false : (b : Bool) → not b ≡ true → b ≡ false
    was_false true is = absurd (true≢false (sym is))
    was_false false is = refl

-- ---- what is due

-- an open place of the state has a limit at or below the moment
pub record IsDuePlace (s : State) (moment place : ℕ) : Type 0 where
  pub i : ℕ
  pub there : OpenPlace
  pub stands : slice_get s.open_places i ≡ Some there
  pub at_place : there.place ≡ place
  pub limit : ℕ
  pub has : there.limit ≡ Some limit
  pub elapsed : limit ≤ moment

-- a deadline of the state is that of an open place
pub record ListedDeadline (s : State) (d : Deadline) : Type 0 where
  pub i : ℕ
  pub there : OpenPlace
  pub stands : slice_get s.open_places i ≡ Some there
  pub has : there.limit ≡ Some d.0
  pub at_place : there.place ≡ d.1

pub listed_deadline : (s : State) (j : ℕ) (d : Deadline) → slice_get (keys (limits_of s)) j ≡ Some d
    → ListedDeadline s d
listed_deadline s j d at =
    let list = filter_map deadline_of_place s.open_places in
    let listed = one_of (keys (limits_of s)) list (in_set list) j d at in
    let from = filter_map_get deadline_of_place s.open_places listed.0 d listed.1 in
    let parts = limit_and_place from.1 from.1.limit d from.3 in
    record { i = from.0; there = from.1; stands = from.2; has = parts.0; at_place = parts.1 }

by_two : (a b c d : ℕ) → a ≡ b → c ≡ b → c ≡ d → a ≡ d
by_two a b c d first second third = cc

pub due_place : (s : State) (moment place : ℕ) → Among (place_list (due_at s moment)) place
    → IsDuePlace s moment place
due_place s moment place among =
    let found = place_among (due_at s moment) place among in
    let all = keys (limits_of s) in
    let of = filter_map_get (λ (d : Deadline). open_at s d.1) (filter (until moment) all) found.i found.there
    found.stands in
    let left = filter_get (until moment) all of.0 of.1 of.2 in
    let from = listed_deadline s left.0 of.1 left.1 in
    let opened = find_get (λ (o : OpenPlace). nat_eq o.place of.1.1) s.open_places found.there of.3 in
    record {
      i = from.i;
      there = from.there;
      stands = from.stands;
      at_place = by_two from.there.place of.1.1 found.there.place place from.at_place
          (eqb-true found.there.place of.1.1 opened.2) found.at_place;
      limit = of.1.0;
      has = from.has;
      elapsed = passed moment of.1.0 left.2;
    }

pub place_due : (s : State) (moment place : ℕ) → IsDuePlace s moment place
    → Among (place_list (due_at s moment)) place
place_due s moment place due =
    let all = keys (limits_of s) in
    let d : Deadline = (due.limit, due.there.place) in
    let list = filter_map deadline_of_place s.open_places in
    let listed = get_filter_map deadline_of_place s.open_places due.i due.there d due.stands
    (ap (option_map (λ l. (l, due.there.place))) due.has) in
    let kept = one_of list all (λ x. sym (in_set list x)) listed.0 d listed.1 in
    let left = get_filter (until moment) all kept.0 d kept.1 (ap not (le-ltb moment due.limit due.elapsed)) in
    let found = get_find (λ (o : OpenPlace). nat_eq o.place due.there.place) s.open_places due.i due.there
    due.stands (eq-eqb due.there.place due.there.place refl) in
    let is = find_get (λ (o : OpenPlace). nat_eq o.place due.there.place) s.open_places found.0 found.1 in
    let there = get_filter_map (λ (x : Deadline). open_at s x.1) (filter (until moment) all) left.0 d found.0
    left.1 found.1 in
    subst (Among (place_list (due_at s moment))) (eqb-true found.0.place due.there.place is.2 ∙ due.at_place)
    (among_place (due_at s moment) there.0 found.0 there.1)
