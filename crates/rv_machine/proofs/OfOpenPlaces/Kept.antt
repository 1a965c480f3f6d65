-- The map in which what is open is kept: what an insertion after all others, a look-up and a removal are in
-- the list of its values.
use Rattle.std.proofs.Common.{◌≡◌, ◌<◌, ◌++◌, ◌∷◌, ◌∙◌, ◌==◌, ℕ, zero, suc, List, [], Bool, true, false, cond}
use Rattle.std.proofs.Common.{not, Some, refl, sym, ap, subst, arith, slice_get, nat_eq}
use Rattle.std.specs.Prelude.{filter}
use Rattle.std.specs.BTreeMap.{insert_entry, is_at}
use Rattle.std.specs.Map.{lookup, remove_entry, values_of}
use Rattle.std.specs.Cmp.{ranked, unsigned_tied}
use Rattle.std.specs.Ordering.{is_eq, match_ordering, nat_cmp}
use Rattle.std.specs.declared.cmp.Ordering.{Ordering}
use Rattle.std.specs.declared.cmp.Ordering.TheVariants.{Less, Equal, Greater}
use Rattle.std.proofs.lemmas.Bool.Decides.{nat_tests}
use Rattle.rv_account.specs.state.State.{OpenPlace}
use Rattle.std.proofs.Common.{inl, inr}
use Rattle.std.proofs.lemmas.List.{map-append}
use Rattle.rv_account.proofs.OfState.Words.{none-some, same_Some}
use Rattle.rv_account.proofs.OfState.Filtered.{append_get, rises_left}
use Rattle.rv_machine.specs.open_places.OpenMap.{AreOpens, PlacesRise, StandBelow, StandUnderPlaces, found_at}
use Rattle.rv_machine.specs.open_places.OpenMap.{all_but}

abbrev Entries : Type 0
Entries = List (ℕ × OpenPlace)

greater_by : (x y : ℕ) → y < x → (r : Ordering) → nat_cmp x y ≡ r → r ≡ Greater
greater_by x y above Less is = let less : x < y = ranked x y Less (sym is) in absurd (omega arith)
greater_by x y above Equal is = let same : x ≡ y = ranked x y Equal (sym is) in absurd (omega arith)
greater_by x y above Greater is = refl

is_greater : (x y : ℕ) → y < x → nat_cmp x y ≡ Greater
is_greater x y above = greater_by x y above (nat_cmp x y) refl

same_test : (k key place : ℕ) → key ≡ place → is_eq (nat_cmp k key) ≡ nat_eq place k
same_test k key place same = unsigned_tied k key ∙ turned
  where
    turned : (k == key) ≡ nat_eq place k
    turned = grind (arith, nat_tests)

-- ---- after all others

pub inserted_last : (es : Entries) (k : ℕ) (v : OpenPlace) → StandUnderPlaces es
    → StandBelow (values_of es) k → insert_entry nat_cmp es k v ≡ es ++ (k, v) ∷ []
inserted_last [] k v under below = refl
inserted_last (e ∷ es) k v under below =
    let less : e.1.place < k = below 0 e.1 refl in
    let own : e.0 ≡ e.1.place = under 0 e refl in
    ap (λ r. match_ordering r ((k, v) ∷ e ∷ es) ((e.0, v) ∷ es) (e ∷ insert_entry nat_cmp es k v))
    (is_greater k e.0 (omega arith))
    ∙ ap (λ l. e ∷ l) (inserted_last es k v (λ i x at. under (suc i) x at) (λ i o at. below (suc i) o at))

-- ---- what stands at a place

pub looked_up : (es : Entries) (k : ℕ) → StandUnderPlaces es
    → lookup (is_at (nat_cmp k)) es ≡ found_at (values_of es) k
looked_up [] k under = refl
looked_up (e ∷ es) k under =
    (λ i. cond (same_test k e.0 e.1.place (under 0 e refl) i) (Some e.1)
    (looked_up es k (λ i x at. under (suc i) x at) i))

-- ---- without it

-- where all pass all are left
pub filter_these : {X : Type 0} (p : X → Bool) (xs : List X)
    → ((i : ℕ) (x : X) → slice_get xs i ≡ Some x → p x ≡ true) → filter p xs ≡ xs
filter_these p [] all = refl
filter_these p (x ∷ xs) all =
    ap (λ b. cond b (x ∷ filter p xs) (filter p xs)) (all 0 x refl)
    ∙ ap (λ l. x ∷ l) (filter_these p xs (λ i y at. all (suc i) y at))

pub apart_from : (place k : ℕ) → k < place → not (nat_eq place k) ≡ true
apart_from place k less = grind (arith, nat_tests)

others_stay : (e : ℕ × OpenPlace) (es : Entries) (k : ℕ) → PlacesRise (values_of (e ∷ es)) → e.1.place ≡ k
    → all_but (values_of es) k ≡ values_of es
others_stay e es k rise at_place =
    filter_these (λ (o : OpenPlace). not (nat_eq o.place k)) (values_of es) (λ i o at.
    let less : e.1.place < o.place = rise 0 (suc i) e.1 o (omega arith) refl at in
    apart_from o.place k (omega arith))

pub same_nat : (a b : ℕ) → nat_eq a b ≡ true → a ≡ b
same_nat a b is = grind (arith, nat_tests)

removed_head : (e : ℕ × OpenPlace) (es : Entries) (k : ℕ) (found : Bool) → PlacesRise (values_of (e ∷ es))
    → nat_eq e.1.place k ≡ found
    → values_of (remove_entry (is_at (nat_cmp k)) es) ≡ all_but (values_of es) k
    → values_of (cond found es (e ∷ remove_entry (is_at (nat_cmp k)) es))
    ≡ cond (not found) (e.1 ∷ all_but (values_of es) k) (all_but (values_of es) k)
removed_head e es k true rise is rest = sym (others_stay e es k rise (same_nat e.1.place k is))
removed_head e es k false rise is rest = ap (λ l. e.1 ∷ l) rest

pub removed : (es : Entries) (k : ℕ) → StandUnderPlaces es → PlacesRise (values_of es)
    → values_of (remove_entry (is_at (nat_cmp k)) es) ≡ all_but (values_of es) k
removed [] k under rise = refl
removed (e ∷ es) k under rise =
    let rest = removed es k (λ i x at. under (suc i) x at)
    (λ i j one other less at there. rise (suc i) (suc j) one other (omega arith) at there) in
    ap (λ found. values_of (cond found es (e ∷ remove_entry (is_at (nat_cmp k)) es)))
    (same_test k e.0 e.1.place (under 0 e refl))
    ∙ removed_head e es k (nat_eq e.1.place k) rise refl rest

-- ---- they stay what is open

left_under : (es : Entries) (test : ℕ → Bool) → StandUnderPlaces es
    → StandUnderPlaces (remove_entry test es)
left_under [] test under = under
left_under (x ∷ es) test under =
    by_head (test x.0) (left_under es test (λ i e at. under (suc i) e at))
  where
    by_head : (found : Bool) → StandUnderPlaces (remove_entry test es)
        → StandUnderPlaces (cond found es (x ∷ remove_entry test es))
    by_head true rest i e at = under (suc i) e at
    by_head false rest zero e at = under 0 e at
    by_head false rest (suc i) e at = rest i e at

pub less_open : (es new : Entries) (k : ℕ) → AreOpens es → new ≡ remove_entry (is_at (nat_cmp k)) es
    → AreOpens new
less_open es new k opens is =
    let P : Entries → Type 0 = λ l. AreOpens l in
    subst P (sym is) (record {
      under = left_under es (is_at (nat_cmp k)) opens.under;
      rise = subst PlacesRise (sym (removed es k opens.under opens.rise))
          (rises_left (λ (o : OpenPlace). not (nat_eq o.place k)) (λ (o : OpenPlace). o.place) (values_of es)
          opens.rise);
    })

-- what stands in a list with one more at its end stands before it, or is that one
pub in_end : (v o : OpenPlace) (j : ℕ) → slice_get (v ∷ []) j ≡ Some o → v ≡ o
in_end v o zero at = same_Some _ _ at
in_end v o (suc j) at = absurd (none-some o at)

pub rise_more : (all : List OpenPlace) (v : OpenPlace) → PlacesRise all → StandBelow all v.place
    → PlacesRise (all ++ v ∷ [])
rise_more [] v rise below zero zero one other less at there = absurd (omega arith)
rise_more [] v rise below i (suc j) one other less at there = absurd (none-some other there)
rise_more [] v rise below (suc i) zero one other less at there = absurd (omega arith)
rise_more (x ∷ all) v rise below i zero one other less at there = absurd (omega arith)
rise_more (x ∷ all) v rise below zero (suc j) one other less at there = elim (append_get all (v ∷ []) j other
    there) [
      | inl before ↦ rise 0 (suc before.0) one other (omega arith) at before.1
      | inr last ↦ subst (λ (o : OpenPlace). one.place < o.place) (in_end v other last.0 last.1)
          (below 0 one at)
    ]
rise_more (x ∷ all) v rise below (suc i) (suc j) one other less at there =
    rise_more all v (λ k l a b under first second. rise (suc k) (suc l) a b (omega arith) first second)
    (λ k o first. below (suc k) o first) i j one other (omega arith) at there

in_last : (e : ℕ × OpenPlace) (v : OpenPlace) (j : ℕ) → slice_get ((v.place, v) ∷ []) j ≡ Some e
    → e.0 ≡ e.1.place
in_last e v zero at = subst (λ (x : ℕ × OpenPlace). x.0 ≡ x.1.place) (same_Some _ _ at) refl
in_last e v (suc j) at = absurd (none-some e at)

more_under : (es : Entries) (v : OpenPlace) → StandUnderPlaces es → StandUnderPlaces (es ++ (v.place, v) ∷ [])
more_under es v under i e at = elim (append_get es ((v.place, v) ∷ []) i e at) [
  | inl before ↦ under before.0 e before.1
  | inr last ↦ in_last e v last.0 last.1
]

pub values_more : (es : Entries) (v : OpenPlace)
    → values_of (es ++ (v.place, v) ∷ []) ≡ values_of es ++ v ∷ []
values_more es v = map-append (λ (e : ℕ × OpenPlace). e.1) es ((v.place, v) ∷ [])

pub more_open : (es new : Entries) (v : OpenPlace) → AreOpens es → StandBelow (values_of es) v.place
    → new ≡ insert_entry nat_cmp es v.place v → AreOpens new
more_open es new v opens below is =
    let P : Entries → Type 0 = λ l. AreOpens l in
    subst P (sym (is ∙ inserted_last es v.place v opens.under below)) (record {
      under = more_under es v opens.under;
      rise = subst PlacesRise (sym (values_more es v)) (rise_more (values_of es) v opens.rise below);
    })

pub more_values : (es new : Entries) (v : OpenPlace) → AreOpens es → StandBelow (values_of es) v.place
    → new ≡ insert_entry nat_cmp es v.place v → values_of new ≡ values_of es ++ v ∷ []
more_values es new v opens below is =
    ap (λ (l : Entries). values_of l) (is ∙ inserted_last es v.place v opens.under below) ∙ values_more es v

pub values_is : {es new : Entries} → new ≡ es → values_of new ≡ values_of es
values_is is = ap (λ (l : Entries). values_of l) is
