-- A state without an item that lay there.
use Rattle.std.proofs.Common.{◌≡◌, ◌≢◌, ◌≤◌, ◌∷◌, ◌∙◌, ℕ, List, [], not, Some, None}
use Rattle.std.proofs.Common.{sym, ap, subst, arith, slice_get, nat_eq}
use Rattle.rv_account.specs.state.State.{OpenPlace, State, Waiter}
use Rattle.rv_account.specs.state.After.{closed}
use Rattle.rv_account.proofs.OfState.Words.{none-some, same_Some}
use Rattle.rv_account.proofs.OfState.Filtered.{filter_get, rises_left}
use Rattle.rv_machine.specs.open_places.OpenMap.{PlacesRise, found_at, count_waiting, all_but}
use Rattle.rv_machine.specs.Machines.{IsConsistent, IsWaiter, AwaitsPlace}
use Rattle.rv_machine.proofs.OfOpenPlaces.Closing.{found_apart}
use Rattle.rv_machine.proofs.EndingOne.{but_one}
use Rattle.rv_machine.proofs.OfOpenPlaces.Indexing.{one_less}

-- how many wait where one place less is open
pub no_more_wait : (all : List OpenPlace) (there : OpenPlace) → PlacesRise all
    → found_at all there.place ≡ Some there → count_waiting (all_but all there.place) ≤ count_waiting all
no_more_wait all there rise found =
    let one = one_less all there.place there rise found in omega (arith, one)

module _ (s : State) (is : IsConsistent s) (there : OpenPlace)
    (found : found_at s.open_places there.place ≡ Some there) (lies : there.waiter ≡ None) where
  abbrev all : List OpenPlace
  all = s.open_places

  abbrev gone : State
  gone = closed s (there ∷ []) []

  opens_are : gone.open_places ≡ all_but all there.place
  opens_are = but_one all there

  as_many : count_waiting gone.open_places ≤ count_waiting all
  as_many = subst (λ (l : List OpenPlace). count_waiting l ≤ count_waiting all) (sym opens_are)
      (no_more_wait all there is.rise found)

  left : (i : ℕ) (o : OpenPlace) → slice_get gone.open_places i ≡ Some o
      → (j : ℕ) × (slice_get all j ≡ Some o)
  left i o at =
      let there_at = sym (ap (λ l. slice_get l i) opens_are) ∙ at in
      let was = filter_get (λ (x : OpenPlace). not (nat_eq x.place there.place)) all i o there_at in
      (was.0, was.1)

  still_waiter : (o : OpenPlace) (w : Waiter) → IsWaiter s o w → IsWaiter gone o w
  still_waiter o w own = record {
    session = own.session;
    known = own.known;
    key_is = own.key_is;
    call = own.call;
    waits = own.waits;
    side = own.side;
    item = own.item;
    lasts = own.lasts;
  }

  still_for : (client place : ℕ) → AwaitsPlace s client place → AwaitsPlace gone client place
  still_for client place was =
      let apart : place ≢ there.place = λ same.
      let its : was.there ≡ there = same_Some _ _ (sym was.found ∙ ap (found_at all) same ∙ found) in
      none-some was.waiter (sym lies ∙ ap (λ (o : OpenPlace). o.waiter) (sym its) ∙ was.waits) in
      record {
        there = was.there;
        found = ap (λ l. found_at l place) opens_are ∙ found_apart all there.place place apart ∙ was.found;
        waiter = was.waiter;
        waits = was.waits;
        client_is = was.client_is;
      }

  pub gone_consistent : IsConsistent gone
  gone_consistent = record {
    rise = subst PlacesRise (sym opens_are)
        (rises_left (λ (x : OpenPlace). not (nat_eq x.place there.place)) (λ (o : OpenPlace). o.place) all
        is.rise);
    below = λ i o at. let was = left i o at in is.below was.0 o was.1;
    wait_queues = λ i o w at has. let was = left i o at in still_waiter o w (is.wait_queues was.0 o w was.1
        has);
    lie = λ i o at none. let was = left i o at in is.lie was.0 o was.1 none;
    clients = λ client session place call known asked.
        still_for client place (is.clients client session place call known asked);
    time = is.time;
    space = omega (arith, is.space, as_many);
  }
