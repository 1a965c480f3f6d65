-- The tables of what is open, where one place is closed.
use Rattle.std.proofs.Common.{◌≡◌, ◌≢◌, ◌⊎◌, ◌<◌, ◌∙◌, ◌+◌, ◌-◌, ◌==◌, ℕ, List, Bool}
use Rattle.std.proofs.Common.{true, false, cond, not, Option, Some, None, IsSome, is_some, refl, sym, ap}
use Rattle.std.proofs.Common.{subst, arith, slice_get, nat_eq, inl, inr}
use Rattle.std.specs.Prelude.{filter, option_and_then, option_map}
use Rattle.std.proofs.lemmas.Bool.{eq-eqb, eqb-true, false≢true, true≢false}
use Rattle.std.proofs.lemmas.Bool.{cases_lt}
use Rattle.std.proofs.lemmas.Option.{slice_get-map}
use Rattle.rv_text.specs.declared.call.Side.{Side}
use Rattle.rv_text.specs.declared.call.Side.TheVariants.{Gives, Takes, Exchanges}
use Rattle.rv_text.specs.Limits.{FitsSide}
use Rattle.rv_session.specs.OwedDuty.{OwedDuty}
use Rattle.rv_dual.specs.Offers.{place_of}
use Rattle.rv_due.specs.Deadlines.{Deadlines}
use Rattle.rv_account.specs.state.State.{OpenPlace, Waiter, place_list, same_side}
use Rattle.rv_account.proofs.OfState.Words.{none-some, same_Some}
use Rattle.rv_account.proofs.OfState.Filtered.{filter_get, find_get, get_filter, get_find, get_map, map_get}
use Rattle.rv_account.proofs.OfState.Filtered.{rises_left}
use Rattle.rv_account.proofs.OfState.SideLines.{same_side_is, same_side_itself}
use Rattle.rv_model_queues.specs.Parked.{AreParked}
use Rattle.rv_model_queues.specs.Views.{WaitQueues, place_of_duty, waiting_on}
use Rattle.rv_model_queues.specs.Meeting.{LeavesSide, StandsOn, Withdrew}
use Rattle.rv_machine.specs.open_places.OpenMap.{PlacesRise, duty_at, found_at, line_in, owed_among}
use Rattle.rv_machine.specs.open_places.OpenMap.{count_waiting, all_but, without_limit}
use Rattle.rv_machine.specs.open_places.Indexed.{AreIndexed, WaitsIn}
use Rattle.rv_machine.proofs.OfOpenPlaces.Closing.{found_apart, line_stays, line_without, one_waits_less}
use Rattle.rv_machine.proofs.OfOpenPlaces.Closing.{places_without}
use Rattle.rv_machine.proofs.OfOpenPlaces.Limits.{left_apart, limits_less}
use Rattle.rv_machine.proofs.OfOpenPlaces.Parted.{PartedAt, parted}

-- ---- whose duties are parked

-- what is owed where somebody waits stays
pub parked_on : (owed now : ℕ → Option OwedDuty) (wait_queues : WaitQueues)
    → ((side : Side) (i r : ℕ) → slice_get (waiting_on wait_queues side) i ≡ Some r → now r ≡ owed r)
    → AreParked owed wait_queues → AreParked now wait_queues
parked_on owed now wait_queues same parked = record {
  queues = λ queue. record {
    givers = λ i offer at. same (Gives queue) i (place_of offer)
        (slice_get-map place_of _ i ∙ ap (option_map place_of) at) ∙ (parked.queues queue).givers i offer at;
    takers = λ i duty at. same (Takes queue) i duty.place
        (slice_get-map (λ (d : OwedDuty). d.place) _ i ∙ ap (option_map (λ (d : OwedDuty). d.place)) at)
        ∙ (parked.queues queue).takers i duty at;
  };
  exchangers = λ exchanger duty there. same (Exchanges exchanger) 0 duty.place
      (ap (λ o. slice_get (place_of_duty o) 0) there) ∙ parked.exchangers exchanger duty there;
}

-- ---- one stands at a place

pub same_place : (all : List OpenPlace) (i j : ℕ) (x y : OpenPlace) → PlacesRise all
    → slice_get all i ≡ Some x → slice_get all j ≡ Some y → x.place ≡ y.place → x ≡ y
same_place all i j x y rise at there same =
    elim (cases_lt i j) [
      | inl less ↦ let before : x.place < y.place = rise i j x y less at there in absurd (omega arith)
      | inr most ↦ elim (cases_lt j i) [
        | inl less ↦ let before : y.place < x.place = rise j i y x less there at in absurd (omega arith)
        | inr least ↦
            let one : i ≡ j = omega arith in
            same_Some _ _ (sym at ∙ ap (slice_get all) one ∙ there)
      ]
    ]

-- what stands there is found
pub stands_found : (all : List OpenPlace) (i : ℕ) (x : OpenPlace) → PlacesRise all
    → slice_get all i ≡ Some x → found_at all x.place ≡ Some x
stands_found all i x rise at =
    let found = get_find (λ (o : OpenPlace). nat_eq o.place x.place) all i x at (eq-eqb x.place x.place refl)
    in
    let is = find_get (λ (o : OpenPlace). nat_eq o.place x.place) all found.0 found.1 in
    found.1 ∙ ap Some (same_place all is.0 i found.0 x rise is.1 at (eqb-true found.0.place x.place is.2))

-- ---- the line of its side

pub side_or_not : (side other : Side) → (side ≡ other) ⊎ (same_side side other ≡ false)
side_or_not side other = by_test (same_side side other) refl
  where
    by_test : (b : Bool) → same_side side other ≡ b → (side ≡ other) ⊎ (same_side side other ≡ false)
    by_test true is = inl (same_side_is side other is)
    by_test false is = inr is

pub other_side : (side other : Side) → same_side side other ≡ false → other ≢ side
other_side side other apart same =
    true≢false (sym (same_side_itself side) ∙ ap (same_side side) (sym same) ∙ apart)

-- a place on a line is that of one that is open
pub on_line : (all : List OpenPlace) (side : Side) (i r : ℕ)
    → slice_get (place_list (line_in all side)) i ≡ Some r
    → (j : ℕ) × (o : OpenPlace) × (slice_get all j ≡ Some o) × (o.place ≡ r) × (o.side ≡ side)
on_line all side i r at =
    let found = map_get (λ (o : OpenPlace). o.place) (line_in all side) i r at in
    let was = filter_get (λ (o : OpenPlace). same_side o.side side) all i found.0 found.1 in
    (was.0, found.0, was.1, found.2, same_side_is found.0.side side was.2)

-- ---- a place is closed

-- it left its line, and all else of those who wait stays
pub record LeftLine (all : List OpenPlace) (old new : WaitQueues) (there : OpenPlace) : Type 0 where
  pub places : waiting_on new there.side ≡ place_list (all_but (line_in all there.side) there.place)
  pub others : (third : Side) → third ≢ there.side → waiting_on new third ≡ waiting_on old third
  pub parked : AreParked (owed_among all) new

module _ (all : List OpenPlace) (old new : WaitQueues) (waiting : ℕ) (due : Deadlines)
    (is : AreIndexed all old waiting due) (place : ℕ) (there : OpenPlace) (at : PartedAt all place there)
    (left : LeftLine all old new there) where
  abbrev rest : List OpenPlace
  rest = all_but all place

  still : (i : ℕ) (o : OpenPlace) → slice_get rest i ≡ Some o
      → (j : ℕ) × (slice_get all j ≡ Some o) × (not (nat_eq o.place place) ≡ true)
  still i o stands = filter_get (λ (x : OpenPlace). not (nat_eq x.place place)) all i o stands

  line_left : (side : Side) → (there.side ≡ side) ⊎ (same_side there.side side ≡ false)
      → waiting_on new side ≡ place_list (line_in rest side)
  line_left side (inl own) =
      ap (waiting_on new) (sym own)
      ∙ left.places
      ∙ ap (λ (p : ℕ). place_list (all_but (line_in all there.side) p)) at.at_place
      ∙ ap place_list (sym (line_without all there.side place))
      ∙ ap (λ s. place_list (line_in rest s)) own
  line_left side (inr apart) =
      left.others side (other_side there.side side apart)
      ∙ is.lines side
      ∙ ap place_list (sym (line_stays all place there at side apart))

  lines_left : (side : Side) → waiting_on new side ≡ place_list (line_in rest side)
  lines_left side = line_left side (side_or_not there.side side)

  pub closed_index : AreIndexed rest new (count_waiting rest) (without_limit there.limit place due)
  closed_index = record {
    rise = rises_left (λ (x : OpenPlace). not (nat_eq x.place place)) (λ (o : OpenPlace). o.place) all
        is.rise;
    fit = λ i one stands. let was = still i one stands in is.fit was.0 one was.1;
    limited = λ i one stands. let was = still i one stands in is.limited was.0 one was.1;
    lines = lines_left;
    parked = parked_on (owed_among all) (owed_among rest) new
        (λ side i r on.
        let found = on_line rest side i r (sym (ap (λ l. slice_get l i) (lines_left side)) ∙ on) in
        ap (option_and_then duty_at)
        (found_apart all place r (λ same. left_apart all place found.0 found.1 found.2 (found.3 ∙ same))))
        left.parked;
    counted = refl;
    limits = ap (without_limit there.limit place) is.limits ∙ limits_less all place there at;
  }

-- ---- what closing wants, and leaves

pub fits_found : (all : List OpenPlace) (wait_queues : WaitQueues) (waiting : ℕ) (due : Deadlines) (place : ℕ)
    (there : OpenPlace) → AreIndexed all wait_queues waiting due → found_at all place ≡ Some there
    → FitsSide there.side
fits_found all wait_queues waiting due place there is found =
    let at = find_get (λ (o : OpenPlace). nat_eq o.place place) all there found in is.fit at.0 there at.1

pub one_less : (all : List OpenPlace) (place : ℕ) (there : OpenPlace) → PlacesRise all
    → found_at all place ≡ Some there → count_waiting all ≡ count_waiting (all_but all place)
    + cond (is_some there.waiter) 1 0
one_less all place there rise found = one_waits_less all place there (parted all place there rise found)

pub closed_all : (all rest : List OpenPlace) (old new : WaitQueues) (waiting left : ℕ) (due after : Deadlines)
    (place : ℕ) (there : OpenPlace) → AreIndexed all old waiting due → found_at all place ≡ Some there
    → rest ≡ all_but all place → LeftLine all old new there
    → waiting ≡ left + cond (is_some there.waiter) 1 0
    → after ≡ without_limit there.limit place due → AreIndexed rest new left after
closed_all all rest old new waiting left due after place there is found rest_is gone count after_is =
    let at = parted all place there is.rise found in
    let closed = closed_index all old new waiting due is place there at gone in
    let less = one_waits_less all place there at in
    let counted : count_waiting (all_but all place) ≡ left = omega (arith, is.counted, less, count) in
    by_parts closed counted
  where
    by_parts : AreIndexed (all_but all place) new (count_waiting (all_but all place))
        (without_limit there.limit place due)
        → count_waiting (all_but all place) ≡ left → AreIndexed rest new left after
    by_parts closed counted =
        subst (λ (l : List OpenPlace). AreIndexed l new left after) (sym rest_is)
        (subst (λ (n : ℕ). AreIndexed (all_but all place) new n after) counted
        (subst (λ (d : Deadlines). AreIndexed (all_but all place) new (count_waiting (all_but all place)) d)
        (sym after_is) closed))

-- ---- who waited at a place left it

same_owed : (all : List OpenPlace) (place : ℕ) (there : OpenPlace) (duty : OwedDuty)
    → found_at all place ≡ Some there → duty_at there ≡ Some duty → owed_among all place ≡ Some duty
same_owed all place there duty found owed = ap (option_and_then duty_at) found ∙ owed

-- it stands on its side, and on no other
pub stands_on : (all : List OpenPlace) (wait_queues : WaitQueues) (waiting : ℕ) (due : Deadlines) (place : ℕ)
    (there : OpenPlace) → AreIndexed all wait_queues waiting due → found_at all place ≡ Some there
    → StandsOn wait_queues there.side place
stands_on all wait_queues waiting due place there is found =
    let at = find_get (λ (o : OpenPlace). nat_eq o.place place) all there found in
    let is_at : there.place ≡ place = eqb-true there.place place at.2 in
    let listed = get_filter (λ (o : OpenPlace). same_side o.side there.side) all at.0 there at.1
    (same_side_itself there.side) in
    record {
      i = listed.0;
      there = ap (λ l. slice_get l listed.0) (is.lines there.side)
          ∙ get_map (λ (o : OpenPlace). o.place) (line_in all there.side) listed.0 there listed.1
          ∙ ap Some is_at;
      only = λ other j on.
          let found = on_line all other j place (sym (ap (λ l. slice_get l j) (is.lines other)) ∙ on) in
          let same = same_place all found.0 at.0 found.1 there is.rise found.2 at.1 (found.3 ∙ sym is_at) in
          sym found.4 ∙ ap (λ (o : OpenPlace). o.side) same;
    }

pub left_by_withdrawal : (all : List OpenPlace) (old new : WaitQueues) (waiting : ℕ) (due : Deadlines)
    (place :
    ℕ)
    (there : OpenPlace) (duty : OwedDuty) (result : Option OwedDuty) → AreIndexed all old waiting due
    → found_at all place ≡ Some there → duty_at there ≡ Some duty
    → LeavesSide old new there.side duty result → LeftLine all old new there
left_by_withdrawal all old new waiting due place there duty result is found owed left =
    let same = duty_place there.waiter owed in
    record {
      places = left.places
          ∙ ap (λ (p : ℕ). filter (λ r. not (r == p)) (waiting_on old there.side)) same
          ∙ ap (λ l. filter (λ r. not (r == there.place)) l) (is.lines there.side)
          ∙ sym (places_without (line_in all there.side) there.place);
      others = left.others;
      parked = left.parked (owed_among all) is.parked;
    }
  where
    duty_place : (w : Option Waiter) → option_map (λ x. record { place = there.place; client = x.key.client })
        w
        ≡ Some duty → duty.place ≡ there.place
    duty_place None is = absurd (none-some duty is)
    duty_place (Some w) is = sym (ap (λ (d : OwedDuty). d.place) (same_Some _ _ is))

-- the duty of who waits at a place
pub has_duty : (there : OpenPlace) → IsSome there.waiter → (duty : OwedDuty) × (duty_at there ≡ Some duty)
has_duty there waits = by_waiter there.waiter waits
  where
    by_waiter : (w : Option Waiter) → IsSome w
        → (duty : OwedDuty) × (option_map (λ x. record { place = there.place; client = x.key.client }) w ≡
        Some duty)
    by_waiter None some = absurd (false≢true some)
    by_waiter (Some w) some = (record { place = there.place; client = w.key.client }, refl)

-- who waited left, and the duty came back
pub record Withdrawn (all : List OpenPlace) (old new : WaitQueues) (there : OpenPlace) (result :
    Option OwedDuty) :
    Type 0 where
  pub duty : OwedDuty
  pub owed : duty_at there ≡ Some duty
  pub is : result ≡ Some duty
  pub left : LeftLine all old new there

pub withdrawn : (all : List OpenPlace) (old new : WaitQueues) (waiting : ℕ) (due : Deadlines) (place : ℕ)
    (there : OpenPlace) (result : Option OwedDuty) → AreIndexed all old waiting due
    → found_at all place ≡ Some there → IsSome there.waiter → Withdrew old new there.side place result
    → Withdrawn all old new there result
withdrawn all old new waiting due place there result is found waits withdrew =
    let has = has_duty there waits in
    let leaves = withdrew (owed_among all) has.0 is.parked (stands_on all old waiting due place there is
    found)
    (same_owed all place there has.0 found has.1) in
    record {
      duty = has.0;
      owed = has.1;
      is = leaves.is;
      left = left_by_withdrawal all old new waiting due place there has.0 result is found has.1 leaves;
    }

pub waits_there : (all : List OpenPlace) (place : ℕ) (there : OpenPlace) → WaitsIn all place
    → found_at all place ≡ Some there → IsSome there.waiter
waits_there all place there waits found =
    subst (λ (o : OpenPlace). IsSome o.waiter) (same_Some _ _ (sym waits.found ∙ found)) waits.waits

pub one_waits : (all : List OpenPlace) (old : WaitQueues) (waiting : ℕ) (due : Deadlines) (place : ℕ)
    (there : OpenPlace) → AreIndexed all old waiting due → found_at all place ≡ Some there
    → IsSome there.waiter → waiting ≡ count_waiting (all_but all place) + 1
one_waits all old waiting due place there is found waits =
    is.counted ∙ one_less all place there is.rise found
    ∙ ap (λ b. count_waiting (all_but all place) + cond b 1 0) waits

pub closed_waiting : (all rest : List OpenPlace) (old new : WaitQueues) (waiting left : ℕ) (due after :
    Deadlines)
    (place : ℕ) (there : OpenPlace) → AreIndexed all old waiting due → found_at all place ≡ Some there
    → IsSome there.waiter → rest ≡ all_but all place → LeftLine all old new there → left ≡ waiting - 1
    → after ≡ without_limit there.limit place due → AreIndexed rest new left after
closed_waiting all rest old new waiting left due after place there is found waits rest_is gone count
    after_is =
    let one = one_waits all old waiting due place there is found waits in
    closed_all all rest old new waiting left due after place there is found rest_is gone
    (omega (arith, one, count) ∙ ap (λ b. left + cond b 1 0) (sym waits)) after_is
