-- What is due, one by one: the least deadline's place comes first, and the rest is what is due without it.
use Rattle.std.proofs.Common.{◌≡◌, ◌<◌, ◌∷◌, ◌∙◌, ◌||◌, ℕ, suc, List, [], Bool}
use Rattle.std.proofs.Common.{true, false, cond, not, map, Option, Some, None, is_some, refl, sym, ap}
use Rattle.std.proofs.Common.{arith, slice_get, inl, inr}
use Rattle.std.specs.Prelude.{filter, filter_map, nat_lt}
use Rattle.std.specs.List.{list_any}
use Rattle.std.specs.FinSet.{contains-from_list}
use Rattle.std.specs.FinMap.{FinMap, contains_key-keys, entries, entries-insert, from_entries, get}
use Rattle.std.specs.FinMap.{get-from_entries, get-insert, insert, keys, same_map}
use Rattle.std.specs.FinMap.Entries.{by_order, is_some-find, put}
use Rattle.std.specs.Cmp.{ranked}
use Rattle.std.specs.Ordering.{eq_by_cmp, nat_cmp, ordering_then}
use Rattle.std.specs.declared.cmp.Ordering.{Ordering}
use Rattle.std.specs.declared.cmp.Ordering.TheVariants.{Less, Equal, Greater}
use Rattle.std.proofs.lemmas.Bool.{false≢true, true≢false, le-ltb, lt-ltb}
use Rattle.rv_due.specs.Deadlines.{AllAbove, Deadline, IsLeastUntil, Precedes, by_moment}
use Rattle.rv_due.proofs.Order.{by_moment_total, by_moment-IsAntisymmetric}
use Rattle.rv_account.specs.state.State.{OpenPlace}
use Rattle.rv_account.specs.state.After.{deadline_of_place}
use Rattle.rv_account.proofs.OfState.Words.{cons_option}
use Rattle.rv_account.proofs.OfState.Filtered.{filter_get, get_any}
use Rattle.rv_machine.specs.open_places.OpenMap.{due_in, found_at, deadlines_in, limits_map, marked, all_but}
use Rattle.rv_machine.proofs.OfOpenPlaces.Closing.{found_apart}
use Rattle.rv_machine.proofs.OfOpenPlaces.Limits.{any_parted, not_listed, own_test}
use Rattle.rv_machine.proofs.OfOpenPlaces.Parted.{PartedAt}

-- ---- the map of the deadlines

unit_same : (x y : Option (Unit {0})) → is_some x ≡ is_some y → x ≡ y
unit_same None None is = refl
unit_same None (Some u) is = absurd (false≢true is)
unit_same (Some u) None is = absurd (true≢false is)
unit_same (Some u) (Some v) is = refl

keys_marked : (list : List Deadline) → map (λ e. e.0) (marked list) ≡ list
keys_marked [] = refl
keys_marked (d ∷ list) = ap (λ l. d ∷ l) (keys_marked list)

-- the map of a list has what stands there
in_map : (list : List Deadline) (q : Deadline)
    → is_some (get (from_entries {R = by_moment} (marked list)) q) ≡ list_any (eq_by_cmp by_moment q) list
in_map list q =
    ap is_some (get-from_entries by_moment_total (marked list) q)
    ∙ is_some-find by_moment q (marked list)
    ∙ ap (list_any (eq_by_cmp by_moment q)) (keys_marked list)

key_listed : (all : List OpenPlace) (d : Deadline) (i : ℕ) → slice_get (keys (limits_map all)) i ≡ Some d
    → list_any (eq_by_cmp by_moment d) (filter_map deadline_of_place all) ≡ true
key_listed all d i at =
    sym (in_map (filter_map deadline_of_place all) d)
    ∙ contains_key-keys (limits_map all) d
    ∙ get_any (eq_by_cmp by_moment d) (keys (limits_map all)) i d at (own_test d)

-- ---- the least

nat_less : (x y : ℕ) → x < y → nat_cmp x y ≡ Less
nat_less x y less = by_case (nat_cmp x y) refl
  where
    by_case : (r : Ordering) → nat_cmp x y ≡ r → r ≡ Less
    by_case Less is = refl
    by_case Equal is = let same : x ≡ y = ranked x y Equal (sym is) in absurd (omega arith)
    by_case Greater is = let more : y < x = ranked x y Greater (sym is) in absurd (omega arith)

nat_same : (x y : ℕ) → x ≡ y → nat_cmp x y ≡ Equal
nat_same x y same = by_case (nat_cmp x y) refl
  where
    by_case : (r : Ordering) → nat_cmp x y ≡ r → r ≡ Equal
    by_case Less is = let less : x < y = ranked x y Less (sym is) in absurd (omega arith)
    by_case Equal is = refl
    by_case Greater is = let more : y < x = ranked x y Greater (sym is) in absurd (omega arith)

less_of : (a b : Deadline) → Precedes a b → by_moment a b ≡ Less
less_of a b (inl moments) = ap (λ r. ordering_then r (nat_cmp a.1 b.1)) (nat_less a.0 b.0 moments)
less_of a b (inr both) =
    ap (λ r. ordering_then r (nat_cmp a.1 b.1)) (nat_same a.0 b.0 both.0) ∙ nat_less a.1 b.1 both.1

put_first : (d : Deadline) (es : List (Deadline × Unit {0}))
    → ((i : ℕ) (x : Deadline) → slice_get (map (λ e. e.0) es) i ≡ Some x → by_moment d x ≡ Less)
    → put by_moment d tt es ≡ (d, tt) ∷ es
put_first d [] below = refl
put_first d (e ∷ es) below =
    ap (λ r. by_order r ((d, tt) ∷ e ∷ es) ((e.0, tt) ∷ es) (e ∷ put by_moment d tt es)) (below 0 e.0 refl)

-- ---- what is due

filter_map_these : {X Y : Type 0} (f g : X → Option Y) (xs : List X)
    → ((i : ℕ) (x : X) → slice_get xs i ≡ Some x → f x ≡ g x) → filter_map f xs ≡ filter_map g xs
filter_map_these f g [] same = refl
filter_map_these f g (x ∷ xs) same =
    λ i. cons_option (same 0 x refl i) (filter_map_these f g xs (λ j y at. same (suc j) y at) i)

filter_none : {X : Type 0} (p : X → Bool) (xs : List X)
    → ((i : ℕ) (x : X) → slice_get xs i ≡ Some x → p x ≡ false) → filter p xs ≡ []
filter_none p [] none = refl
filter_none p (x ∷ xs) none =
    ap (λ b. cond b (x ∷ filter p xs) (filter p xs)) (none 0 x refl)
    ∙ filter_none p xs (λ i y at. none (suc i) y at)

abbrev until : ℕ → Deadline → Bool
until moment d = not (nat_lt moment d.0)

-- where no deadline is so early nothing is due
pub none_due : (all : List OpenPlace) (moment : ℕ) → AllAbove (deadlines_in all) moment
    → due_in all moment ≡ []
none_due all moment above =
    ap (filter_map (λ (d : Deadline). found_at all d.1))
    (filter_none (until moment) (keys (limits_map all)) (λ i d at.
    ap not (lt-ltb moment d.0 (above d
    (contains-from_list by_moment_total (filter_map deadline_of_place all) d ∙ key_listed all d i at)))))

module _ (all : List OpenPlace) (place moment limit : ℕ) (there : OpenPlace)
    (at : PartedAt all place there) (has : there.limit ≡ Some limit)
    (least : IsLeastUntil (deadlines_in all) moment (limit, place)) where
  abbrev its : Deadline
  its = (limit, place)

  with_its : limits_map all ≡ insert (limits_map (all_but all place)) its tt
  with_its = same_map by_moment_total by_moment-IsAntisymmetric _ _ (λ q. unit_same _ _
      (in_map (filter_map deadline_of_place all) q
      ∙ any_parted all place there at limit has q
      ∙ by_own q (eq_by_cmp by_moment q its)
      ∙ ap is_some (sym (get-insert by_moment_total (limits_map (all_but all place)) its tt q))))
    where
      by_own : (q : Deadline) (own : Bool)
          → (own || list_any (eq_by_cmp by_moment q) (filter_map deadline_of_place (all_but all place)))
          ≡ is_some (cond own (Some tt) (get (limits_map (all_but all place)) q))
      by_own q true = refl
      by_own q false = sym (in_map (filter_map deadline_of_place (all_but all place)) q)

  -- a deadline that is left is another one
  is_other : (x : Deadline) (i : ℕ) → slice_get (keys (limits_map (all_but all place))) i ≡ Some x
      → x.1 ≡ place → ⊥
  is_other x i stands same = not_listed all place x same (key_listed (all_but all place) x i stands)

  is_more : (x : Deadline) (i : ℕ) → slice_get (keys (limits_map (all_but all place))) i ≡ Some x
      → by_moment its x ≡ Less
  is_more x i stands = less_of its x (least.least x
      (contains-from_list by_moment_total (filter_map deadline_of_place all) x
      ∙ any_parted all place there at limit has x
      ∙ or_second (eq_by_cmp by_moment x its) _ (key_listed (all_but all place) x i stands))
      (λ same. is_other x i stands (ap (λ (d : Deadline). d.1) same)))
    where
      or_second : (b c : Bool) → c ≡ true → (b || c) ≡ true
      or_second true c is = refl
      or_second false c is = is

  keys_first : keys (limits_map all) ≡ its ∷ keys (limits_map (all_but all place))
  keys_first =
      ap (λ (m : FinMap by_moment (Unit {0})). keys m) with_its
      ∙ ap (map (λ (e : Deadline × Unit {0}). e.0))
      (entries-insert by_moment_total (limits_map (all_but all place)) its tt
      ∙ put_first its (entries (limits_map (all_but all place))) (λ i x stands. is_more x i stands))

  pub first_due : found_at all place ≡ Some there
      → due_in all moment ≡ there ∷ due_in (all_but all place) moment
  first_due found =
      ap (λ ks. filter_map (λ (d : Deadline). found_at all d.1) (filter (until moment) ks)) keys_first
      ∙ ap (λ b. filter_map (λ (d : Deadline). found_at all d.1) (cond b
      (its ∷ filter (until moment) (keys (limits_map (all_but all place))))
      (filter (until moment) (keys (limits_map (all_but all place))))))
      (ap not (le-ltb moment limit least.due))
      ∙ ap (λ o. cons_option o (filter_map (λ (d : Deadline). found_at all d.1)
      (filter (until moment) (keys (limits_map (all_but all place)))))) found
      ∙ ap (λ l. there ∷ l) (sym (filter_map_these (λ (d : Deadline). found_at (all_but all place) d.1)
      (λ d. found_at all d.1) (filter (until moment) (keys (limits_map (all_but all place))))
      (λ i x stands.
      let was = filter_get (until moment) (keys (limits_map (all_but all place))) i x stands in
      found_apart all place x.1 (is_other x was.0 was.1))))
