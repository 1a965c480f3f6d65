-- What is read off a list of open places where one of them is closed: lines, duties, how many wait, and
-- limits.
use Rattle.std.proofs.Common.{◌≡◌, ◌≢◌, ◌++◌, ◌∷◌, ◌∙◌, ◌+◌, ◌&&◌, ℕ, List, []}
use Rattle.std.proofs.Common.{Bool, true, false, cond, not, length, Some, is_some}
use Rattle.std.proofs.Common.{refl, sym, ap, arith, nat_eq}
use Rattle.std.specs.Prelude.{filter}
use Rattle.std.proofs.lemmas.Bool.Decides.{nat_tests}
use Rattle.std.proofs.lemmas.List.{length-append}
use Rattle.std.proofs.lemmas.List.Elements.{filter-append}
use Rattle.rv_text.specs.declared.call.Side.{Side}
use Rattle.rv_account.specs.state.State.{OpenPlace, place_list, same_side}
use Rattle.rv_machine.specs.open_places.OpenMap.{found_at, line_in, count_waiting, all_but}
use Rattle.rv_machine.proofs.OfOpenPlaces.Parted.{PartedAt, filter_twice}

-- ---- lines

-- the tests of two commute
both_turned : (b c : Bool) → (b && c) ≡ (c && b)
both_turned true true = refl
both_turned true false = refl
both_turned false true = refl
both_turned false false = refl

filter_same : {X : Type 0} (p q : X → Bool) (xs : List X) → ((x : X) → p x ≡ q x) → filter p xs ≡ filter q xs
filter_same p q [] same = refl
filter_same p q (x ∷ xs) same =
    λ i. cond (same x i) (x ∷ filter_same p q xs same i) (filter_same p q xs same i)

-- the line of a side without a place
pub line_without : (all : List OpenPlace) (side : Side) (place : ℕ)
    → line_in (all_but all place) side ≡ all_but (line_in all side) place
line_without all side place =
    filter_twice (λ (o : OpenPlace). same_side o.side side) (λ o. not (nat_eq o.place place)) all
    ∙ filter_same (λ (o : OpenPlace). not (nat_eq o.place place) && same_side o.side side)
    (λ o. same_side o.side side && not (nat_eq o.place place)) all
    (λ o. both_turned (not (nat_eq o.place place)) (same_side o.side side))
    ∙ sym (filter_twice (λ (o : OpenPlace). not (nat_eq o.place place)) (λ o. same_side o.side side) all)

-- the places of a list without one
pub places_without : (all : List OpenPlace) (place : ℕ)
    → place_list (all_but all place) ≡ filter (λ p. not (nat_eq p place)) (place_list all)
places_without [] place = refl
places_without (o ∷ all) place = by_head (not (nat_eq o.place place)) (places_without all place)
  where
    by_head : (b : Bool) → place_list (all_but all place) ≡ filter (λ p. not (nat_eq p place))
        (place_list all)
        → place_list (cond b (o ∷ all_but all place) (all_but all place))
        ≡ cond b (o.place ∷ filter (λ p. not (nat_eq p place)) (place_list all))
        (filter (λ p. not (nat_eq p place)) (place_list all))
    by_head true rest = ap (λ l. o.place ∷ l) rest
    by_head false rest = rest

-- ---- one less

module _ (all : List OpenPlace) (place : ℕ) (there : OpenPlace) (at : PartedAt all place there) where
  -- the line of its side begins with those before it, and that of another has none of it
  line_parted : (side : Side)
      → line_in all side
      ≡ line_in at.front side ++ cond (same_side there.side side) (there ∷ line_in at.behind side)
      (line_in at.behind side)
  line_parted side = ap (λ l. line_in l side) at.whole
      ∙ filter-append (λ (o : OpenPlace). same_side o.side side) at.front (there ∷ at.behind)

  line_less : (side : Side) → line_in (all_but all place) side ≡ line_in at.front side ++ line_in at.behind
      side
  line_less side = ap (λ l. line_in l side) at.others
      ∙ filter-append (λ (o : OpenPlace). same_side o.side side) at.front at.behind

  -- the lines of other sides stay
  pub line_stays : (side : Side) → same_side there.side side ≡ false
      → line_in (all_but all place) side ≡ line_in all side
  line_stays side apart =
      line_less side
      ∙ ap (λ b. line_in at.front side ++ cond b (there ∷ line_in at.behind side) (line_in at.behind side))
      (sym apart)
      ∙ sym (line_parted side)

  -- ---- how many wait

  waits_parted : count_waiting all
      ≡ count_waiting at.front + length (cond (is_some there.waiter)
      (there ∷ filter (λ (o : OpenPlace). is_some o.waiter) at.behind)
      (filter (λ (o : OpenPlace). is_some o.waiter) at.behind))
  waits_parted = ap count_waiting at.whole
      ∙ ap length (filter-append (λ (o : OpenPlace). is_some o.waiter) at.front (there ∷ at.behind))
      ∙ length-append _ _

  waits_less : count_waiting (all_but all place) ≡ count_waiting at.front + count_waiting at.behind
  waits_less = ap count_waiting at.others
      ∙ ap length (filter-append (λ (o : OpenPlace). is_some o.waiter) at.front at.behind)
      ∙ length-append _ _

  by_waiter : (b : Bool) → is_some there.waiter ≡ b
      → count_waiting all ≡ count_waiting (all_but all place) + cond b 1 0
  by_waiter true is =
      waits_parted
      ∙ ap (λ b. count_waiting at.front + length (cond b
      (there ∷ filter (λ (o : OpenPlace). is_some o.waiter) at.behind)
      (filter (λ (o : OpenPlace). is_some o.waiter) at.behind))) is
      ∙ omega (arith, waits_less)
  by_waiter false is =
      waits_parted
      ∙ ap (λ b. count_waiting at.front + length (cond b
      (there ∷ filter (λ (o : OpenPlace). is_some o.waiter) at.behind)
      (filter (λ (o : OpenPlace). is_some o.waiter) at.behind))) is
      ∙ omega (arith, waits_less)

  pub one_waits_less : count_waiting all ≡ count_waiting (all_but all place) + cond (is_some there.waiter) 1 0
  one_waits_less = by_waiter (is_some there.waiter) refl

-- ---- what is found

found_by : (o : OpenPlace) (all : List OpenPlace) (place other : ℕ) → other ≢ place
    → found_at (all_but all place) other ≡ found_at all other → (b : Bool) → nat_eq o.place place ≡ b
    → found_at (cond (not b) (o ∷ all_but all place) (all_but all place)) other
    ≡ cond (nat_eq o.place other) (Some o) (found_at all other)
found_by o all place other apart rest true is =
    rest ∙ ap (λ b. cond b (Some o) (found_at all other)) (sym not_other)
  where
    not_other : nat_eq o.place other ≡ false
    not_other = grind (arith, nat_tests)
found_by o all place other apart rest false is = ap (λ r. cond (nat_eq o.place other) (Some o) r) rest

-- what stands at another place is found as before
pub found_apart : (all : List OpenPlace) (place other : ℕ) → other ≢ place
    → found_at (all_but all place) other ≡ found_at all other
found_apart [] place other apart = refl
found_apart (o ∷ all) place other apart =
    found_by o all place other apart (found_apart all place other apart) (nat_eq o.place place) refl
