-- The first of a line is closed.
use Rattle.std.proofs.Common.{◌≡◌, ◌≢◌, ◌∷◌, ◌∙◌, ◌+◌, ◌-◌, ℕ, List, [], cond, not}
use Rattle.std.proofs.Common.{Option, Some, None, is_some, refl, sym, ap, subst, arith, slice_get}
use Rattle.std.specs.Prelude.{option_and_then, option_map}
use Rattle.std.proofs.lemmas.Bool.{eq-eqb}
use Rattle.rv_text.specs.declared.call.Side.{Side}
use Rattle.rv_session.specs.OwedDuty.{OwedDuty}
use Rattle.rv_due.specs.Deadlines.{Deadlines}
use Rattle.rv_account.specs.state.State.{OpenPlace, Waiter, place_list, same_side}
use Rattle.rv_account.proofs.OfState.Filtered.{filter_get, rises_left}
use Rattle.rv_account.proofs.OfState.SideLines.{same_side_is}
use Rattle.rv_model_queues.specs.Parked.{AreParked}
use Rattle.rv_model_queues.specs.Views.{WaitQueues, waiting_on}
use Rattle.rv_machine.specs.open_places.OpenMap.{PlacesRise, duty_at, found_at, line_in, owed_among}
use Rattle.rv_machine.specs.open_places.OpenMap.{count_waiting, all_but, without_limit}
use Rattle.rv_machine.specs.open_places.Indexed.{AreIndexed, ClosesFirst}
use Rattle.rv_machine.proofs.OfOpenPlaces.Closing.{line_without}
use Rattle.rv_machine.proofs.OfOpenPlaces.Fronts.{line_found}
use Rattle.rv_machine.proofs.OfOpenPlaces.Indexing.{LeftLine, closed_all, one_less}
use Rattle.rv_machine.proofs.OfOpenPlaces.Parted.{others_pass}

-- the first of a line, which left it
pub record FirstLeft (all : List OpenPlace) (old new : WaitQueues) (side : Side) (place : ℕ) : Type 0 where
  pub there : OpenPlace
  pub found : found_at all place ≡ Some there
  pub at_place : there.place ≡ place
  pub left : LeftLine all old new there
  pub line : line_in all side ≡ there ∷ line_in (all_but all place) side

same_head : (x p : ℕ) (xs ps : List ℕ) → x ∷ xs ≡ p ∷ ps → x ≡ p
same_head x p xs ps is = cc

same_tail : (x p : ℕ) (xs ps : List ℕ) → x ∷ xs ≡ p ∷ ps → xs ≡ ps
same_tail x p xs ps is = cc

no_first : (p : ℕ) (ps : List ℕ) → [] ≡ p ∷ ps → ⊥
no_first p ps is = cc

-- a list without places is empty
pub no_places : (line : List OpenPlace) → place_list line ≡ [] → line ≡ []
no_places [] is = refl
no_places (x ∷ line) is = absurd (no_first x.place (place_list line) (sym is))

-- without the first of a rising list the rest is left
rest_of : (x : OpenPlace) (xs : List OpenPlace) → PlacesRise (x ∷ xs) → all_but (x ∷ xs) x.place ≡ xs
rest_of x xs rise =
    ap (λ b. cond (not b) (x ∷ all_but xs x.place) (all_but xs x.place)) (eq-eqb x.place x.place refl)
    ∙ others_pass x xs rise

module _ (all : List OpenPlace) (old new : WaitQueues) (waiting : ℕ) (due : Deadlines) (side : Side) (place :
    ℕ)
    (is : AreIndexed all old waiting due) (first : waiting_on old side ≡ place ∷ waiting_on new side)
    (others : (third : Side) → third ≢ side → waiting_on new third ≡ waiting_on old third)
    (parked : AreParked (owed_among all) new) where
  by_line : (line : List OpenPlace) → line_in all side ≡ line → FirstLeft all old new side place
  by_line [] none = absurd (no_first place (waiting_on new side)
      (ap place_list (sym none) ∙ sym (is.lines side) ∙ first))
  by_line (x ∷ xs) line =
      let places : x.place ∷ place_list xs ≡ place ∷ waiting_on new side =
      ap place_list (sym line) ∙ sym (is.lines side) ∙ first in
      let at : x.place ≡ place = same_head x.place place (place_list xs) (waiting_on new side) places in
      let on : slice_get (line_in all side) 0 ≡ Some x = ap (λ (l : List OpenPlace). slice_get l 0) line in
      let was = filter_get (λ (o : OpenPlace). same_side o.side side) all 0 x on in
      let its : x.side ≡ side = same_side_is x.side side was.2 in
      let rise : PlacesRise (x ∷ xs) = subst PlacesRise line
      (rises_left (λ (o : OpenPlace). same_side o.side side) (λ (o : OpenPlace). o.place) all is.rise) in
      let left : all_but (line_in all side) x.place ≡ xs =
      ap (λ l. all_but l x.place) line ∙ rest_of x xs rise in
      record {
        there = x;
        found = ap (found_at all) (sym at) ∙ line_found all side is.rise 0 x on;
        at_place = at;
        left = record {
          places = ap (waiting_on new) its
              ∙ sym (same_tail x.place place (place_list xs) (waiting_on new side) places)
              ∙ ap place_list (sym left)
              ∙ ap (λ s. place_list (all_but (line_in all s) x.place)) (sym its);
          others = λ third apart. others third (λ same. apart (same ∙ sym its));
          parked = parked;
        };
        line = line ∙ ap (λ l. x ∷ l) (sym left
            ∙ ap (all_but (line_in all side)) at
            ∙ sym (line_without all side place));
      }

  pub first_left : FirstLeft all old new side place
  first_left = by_line (line_in all side) refl

-- what its duty is, and how many wait
pub count_owed : (there : OpenPlace) (duty : Option OwedDuty) → duty_at there ≡ duty
    → is_some {T = OwedDuty} duty ≡ is_some {T = Waiter} there.waiter
count_owed there duty owed = ap (λ (o : Option OwedDuty). is_some o) (sym owed) ∙ by_waiter there.waiter
  where
    by_waiter : (w : Option Waiter)
        → is_some {T = OwedDuty} (option_map (λ x. record { place = there.place; client = x.key.client }) w)
        ≡ is_some {T = Waiter} w
    by_waiter None = refl
    by_waiter (Some w) = refl

pub owed_there : (all : List OpenPlace) (place : ℕ) (there : OpenPlace) (duty : Option OwedDuty)
    → found_at all place ≡ Some there → duty ≡ owed_among all place → duty_at there ≡ duty
owed_there all place there duty found is = sym (is ∙ ap (option_and_then duty_at) found)

pub closes_first : (all new : List OpenPlace) (side : Side) (place : ℕ) (there : OpenPlace)
    (duty : Option OwedDuty) → found_at all place ≡ Some there → there.place ≡ place
    → line_in all side ≡ there ∷ line_in (all_but all place) side → duty_at there ≡ duty
    → new ≡ all_but all place → ClosesFirst all new (Some side) there duty
closes_first all new side place there duty found at line owed rest =
    record {
      closes = record {
        found = ap (found_at all) at ∙ found;
        owed = owed;
        rest = rest ∙ ap (all_but all) (sym at);
      };
      first = line ∙ ap (λ (l : List OpenPlace). there ∷ line_in l side) (sym rest);
    }

-- how many wait with it, and without it
pub count_first : (all : List OpenPlace) (wait_queues : WaitQueues) (waiting : ℕ) (due : Deadlines) (place :
    ℕ)
    (there : OpenPlace) (duty : Option OwedDuty) → AreIndexed all wait_queues waiting due
    → found_at all place ≡ Some there → duty_at there ≡ duty
    → waiting ≡ count_waiting (all_but all place) + cond (is_some duty) 1 0
count_first all wait_queues waiting due place there duty is found owed =
    is.counted ∙ one_less all place there is.rise found
    ∙ ap (λ b. count_waiting (all_but all place) + cond b 1 0) (sym (count_owed there duty owed))

-- what is closed leaves the tables of all others
pub closed_first : (all rest : List OpenPlace) (old new : WaitQueues) (waiting left count : ℕ) (due after :
    Deadlines)
    (place : ℕ) (there : OpenPlace) (duty : Option OwedDuty) → AreIndexed all old waiting due
    → found_at all place ≡ Some there → duty_at there ≡ duty → count ≡ cond (is_some duty) 1 0
    → rest ≡ all_but all place → LeftLine all old new there → left ≡ waiting - count
    → after ≡ without_limit there.limit place due → AreIndexed rest new left after
closed_first all rest old new waiting left count due after place there duty is found owed number rest_is gone
    less after_is =
    let counted = count_first all old waiting due place there duty is found owed in
    closed_all all rest old new waiting left due after place there is found rest_is gone
    (omega (arith, counted, number, less) ∙ ap (λ n. left + n) number
    ∙ ap (λ b. left + cond b 1 0) (count_owed there duty owed)) after_is
