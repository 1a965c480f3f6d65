-- A list of open places parted at one of them: before it, itself, and after it.
use Rattle.std.proofs.Common.{◌≡◌, ◌<◌, ◌++◌, ◌∷◌, ◌∙◌, ℕ, suc, List, [], Bool, true, false, cond, not}
use Rattle.std.proofs.Common.{Some, refl, sym, ap, arith, nat_eq}
use Rattle.std.specs.Prelude.{filter}
use Rattle.std.specs.List.{list_any}
use Rattle.std.proofs.Common.{◌||◌, ◌&&◌}
use Rattle.std.proofs.lemmas.Bool.Decides.{nat_tests}
use Rattle.rv_account.specs.state.State.{OpenPlace}
use Rattle.rv_account.specs.state.After.{but}
use Rattle.rv_account.proofs.OfState.Words.{none-some, same_Some}
use Rattle.rv_machine.specs.open_places.OpenMap.{PlacesRise, found_at, all_but}
use Rattle.rv_machine.proofs.OfOpenPlaces.Kept.{apart_from, filter_these, same_nat}

-- the one at a place, those before it and those after it
pub record PartedAt (all : List OpenPlace) (place : ℕ) (there : OpenPlace) : Type 0 where
  pub front : List OpenPlace
  pub behind : List OpenPlace
  pub whole : all ≡ front ++ there ∷ behind
  pub others : all_but all place ≡ front ++ behind
  pub at_place : there.place ≡ place

pub rise_behind : (x : OpenPlace) (all : List OpenPlace) → PlacesRise (x ∷ all) → PlacesRise all
rise_behind x all rise i j one other less at there = rise (suc i) (suc j) one other (omega arith) at there

pub others_pass : (x : OpenPlace) (all : List OpenPlace) → PlacesRise (x ∷ all)
    → all_but all x.place ≡ all
others_pass x all rise =
    filter_these (λ (o : OpenPlace). not (nat_eq o.place x.place)) all (λ i o at.
    let less : x.place < o.place = rise 0 (suc i) x o (omega arith) refl at in apart_from o.place x.place
    less)

parted_by : (x : OpenPlace) (all : List OpenPlace) (place : ℕ) (there : OpenPlace) → PlacesRise (x ∷ all)
    → (found_at all place ≡ Some there → PartedAt all place there) → (b : Bool) → nat_eq x.place place ≡ b
    → cond b (Some x) (found_at all place) ≡ Some there → PartedAt (x ∷ all) place there
parted_by x all place there rise rest true is found =
    let same : x ≡ there = same_Some _ _ found in
    let at : x.place ≡ place = same_nat x.place place is in
    record {
      front = [];
      behind = all;
      whole = ap (λ o. o ∷ all) same;
      others = ap (λ b. cond (not b) (x ∷ all_but all place) (all_but all place)) is
          ∙ ap (all_but all) (sym at) ∙ others_pass x all rise;
      at_place = ap (λ (o : OpenPlace). o.place) (sym same) ∙ at;
    }
parted_by x all place there rise rest false is found =
    let parted = rest found in
    record {
      front = x ∷ parted.front;
      behind = parted.behind;
      whole = ap (λ l. x ∷ l) parted.whole;
      others = ap (λ b. cond (not b) (x ∷ all_but all place) (all_but all place)) is
          ∙ ap (λ l. x ∷ l) parted.others;
      at_place = parted.at_place;
    }

pub parted : (all : List OpenPlace) (place : ℕ) (there : OpenPlace) → PlacesRise all
    → found_at all place ≡ Some there → PartedAt all place there
parted [] place there rise found = absurd (none-some there found)
parted (x ∷ all) place there rise found =
    parted_by x all place there rise (parted all place there (rise_behind x all rise)) (nat_eq x.place place)
    refl found

-- ---- those that are gone

filter_same : {X : Type 0} (p q : X → Bool) (xs : List X) → ((x : X) → p x ≡ q x) → filter p xs ≡ filter q xs
filter_same p q [] same = refl
filter_same p q (x ∷ xs) same =
    λ i. cond (same x i) (x ∷ filter_same p q xs same i) (filter_same p q xs same i)

twice_head : {X : Type 0} (p q : X → Bool) (x : X) (xs : List X)
    → filter p (filter q xs) ≡ filter (λ y. q y && p y) xs → (b : Bool)
    → filter p (cond b (x ∷ filter q xs) (filter q xs))
    ≡ cond (b && p x) (x ∷ filter (λ y. q y && p y) xs) (filter (λ y. q y && p y) xs)
twice_head p q x xs rest true = ap (λ l. cond (p x) (x ∷ l) l) rest
twice_head p q x xs rest false = rest

-- what is left of what is left
pub filter_twice : {X : Type 0} (p q : X → Bool) (xs : List X)
    → filter p (filter q xs) ≡ filter (λ x. q x && p x) xs
filter_twice p q [] = refl
filter_twice p q (x ∷ xs) = twice_head p q x xs (filter_twice p q xs) (q x)

both_tests : (b c : Bool) → not (b || c) ≡ (not b && not c)
both_tests true c = refl
both_tests false c = refl

turned : (a b : ℕ) → nat_eq a b ≡ nat_eq b a
turned a b = grind (arith, nat_tests)

pub but_cons : (all gone : List OpenPlace) (o : OpenPlace)
    → but all (o ∷ gone) ≡ but (all_but all o.place) gone
but_cons all gone o =
    filter_same (λ (x : OpenPlace). not (list_any (λ other. nat_eq other.place x.place) (o ∷ gone)))
    (λ x. not (nat_eq x.place o.place) && not (list_any (λ other. nat_eq other.place x.place) gone)) all
    (λ x. both_tests (nat_eq o.place x.place) (list_any (λ other. nat_eq other.place x.place) gone)
    ∙ ap (λ b. not b && not (list_any (λ other. nat_eq other.place x.place) gone)) (turned o.place x.place))
    ∙ sym (filter_twice (λ (x : OpenPlace). not (list_any (λ other. nat_eq other.place x.place) gone))
    (λ x. not (nat_eq x.place o.place)) all)

pub but_none : (all : List OpenPlace) → but all [] ≡ all
but_none all =
    filter_these (λ (x : OpenPlace). not (list_any (λ (o : OpenPlace). nat_eq o.place x.place) [])) all
    (λ i o at. refl)
