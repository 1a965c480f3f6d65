-- A state in which one wait was ended.
use Rattle.std.proofs.Common.{◌≡◌, ◌≢◌, ◌⊎◌, ◌∷◌, ◌∙◌, ◌+◌, ℕ, List, [], true, cond, not}
use Rattle.std.proofs.Common.{Option, Some, is_some, sym, ap, subst, arith, slice_get, nat_eq}
use Rattle.std.proofs.Common.{inl, inr}
use Rattle.std.specs.Prelude.{option_and_then}
use Rattle.std.specs.FinMap.{FinMap, get}
use Rattle.std.specs.Ordering.{nat_cmp}
use Rattle.std.proofs.lemmas.Bool.{cases_eq, eqb-true}
use Rattle.rv_text.specs.declared.call.Call.{Call}
use Rattle.rv_text.specs.declared.answer.Reply.{Reply}
use Rattle.rv_session.specs.declared.client.LastRequest.{LastRequest}
use Rattle.rv_session.specs.declared.client.LastRequest.TheVariants.{RepliedTo, Waits}
use Rattle.rv_session.specs.Clients.{clients_told, place_awaited, place_waiting}
use Rattle.rv_account.specs.state.State.{ClientState, OpenPlace, State, Waiter, client_at}
use Rattle.rv_account.specs.state.After.{answered, but, closed, with_request}
use Rattle.rv_account.proofs.OfState.TableClients.{clients_after_tell}
use Rattle.rv_account.proofs.OfState.Words.{same_Some}
use Rattle.rv_account.proofs.OfState.Filtered.{filter_get, find_get, rises_left}
use Rattle.rv_machine.specs.open_places.OpenMap.{PlacesRise, found_at, count_waiting, all_but}
use Rattle.rv_machine.specs.Machines.{IsConsistent, IsWaiter, AwaitsPlace}
use Rattle.rv_machine.proofs.OfOpenPlaces.Closing.{found_apart}
use Rattle.rv_machine.proofs.OfOpenPlaces.Indexing.{one_less}
use Rattle.rv_machine.proofs.OfOpenPlaces.Limits.{left_apart}
use Rattle.rv_machine.proofs.OfOpenPlaces.Parted.{but_cons, but_none}
use Rattle.rv_machine.proofs.Told.{told_other, told_own}

-- the one place that is closed
pub but_one : (all : List OpenPlace) (there : OpenPlace) → but all (there ∷ []) ≡ all_but all there.place
but_one all there = but_cons all [] there ∙ but_none (all_but all there.place)

same_client_or : (a b : ℕ) → (a ≡ b) ⊎ (a ≢ b)
same_client_or a b = cases_eq a b

waits_place : (p q : ℕ) (call other : Call) → Waits p call ≡ Waits q other → p ≡ q
waits_place p q call other is = cc

module _ (s : State) (is : IsConsistent s) (place : ℕ) (there : OpenPlace) (w : Waiter) (reply : Reply)
    (found : found_at s.open_places place ≡ Some there) (waits : there.waiter ≡ Some w) where
  abbrev all : List OpenPlace
  all = s.open_places

  abbrev gone : State
  gone = closed s (there ∷ []) (record { key = w.key; reply = reply } ∷ [])

  stands : (i : ℕ) × (slice_get all i ≡ Some there) × (nat_eq there.place place ≡ true)
  stands = find_get (λ (o : OpenPlace). nat_eq o.place place) all there found

  at_place : there.place ≡ place
  at_place = eqb-true there.place place stands.2

  pub own : IsWaiter s there w
  own = is.wait_queues stands.0 there w stands.1 waits

  pub opens_are : gone.open_places ≡ all_but all place
  opens_are = but_one all there ∙ ap (all_but all) at_place

  pub clients_are : gone.clients ≡ clients_told s.clients w.key.client reply
  clients_are = clients_after_tell s.clients (record { key = w.key; reply = reply })

  other_client : (client : ℕ) → client ≢ w.key.client → client_at gone client ≡ client_at s client
  other_client client apart = ap (λ (m : FinMap nat_cmp ClientState). get m client) clients_are
      ∙ told_other s.clients w.key.client client reply apart

  its_client : client_at gone w.key.client ≡ Some (with_request own.session
      (answered reply own.session.request))
  its_client = ap (λ (m : FinMap nat_cmp ClientState). get m w.key.client) clients_are
      ∙ told_own s.clients w.key.client reply own.session own.known

  -- who still waits is of another client
  differs : (o : OpenPlace) (v : Waiter) → IsWaiter s o v → o.place ≢ place → v.key.client ≢ w.key.client
  differs o v waiter apart same =
      let session_is : own.session ≡ waiter.session = same_Some _ _
      (sym own.known ∙ ap (client_at s) (sym same) ∙ waiter.known) in
      apart (sym (waits_place there.place o.place own.call waiter.call
      (sym own.waits ∙ ap (λ (x : ClientState). x.request) session_is ∙ waiter.waits)) ∙ at_place)

  stays_waiter : (o : OpenPlace) (v : Waiter) → IsWaiter s o v → o.place ≢ place → IsWaiter gone o v
  stays_waiter o v waiter apart = record {
    session = waiter.session;
    known = other_client v.key.client (differs o v waiter apart) ∙ waiter.known;
    key_is = waiter.key_is;
    call = waiter.call;
    waits = waiter.waits;
    side = waiter.side;
    item = waiter.item;
    lasts = waiter.lasts;
  }

  left : (i : ℕ) (o : OpenPlace) → slice_get gone.open_places i ≡ Some o
      → (j : ℕ) × (slice_get all j ≡ Some o) × (o.place ≢ place)
  left i o at =
      let there_at = sym (ap (λ l. slice_get l i) opens_are) ∙ at in
      let was = filter_get (λ (x : OpenPlace). not (nat_eq x.place place)) all i o there_at in
      (was.0, was.1, λ same. left_apart all place i o there_at same)

  waits_still : (client : ℕ) (session : ClientState) (p : ℕ) (call : Call)
      → (client ≡ w.key.client) ⊎ (client ≢ w.key.client)
      → client_at gone client ≡ Some session → session.request ≡ Waits p call → AwaitsPlace gone client p
  waits_still client session p call (inl same) known asked =
      absurd (no_more (own.session.request) own.waits (ap (λ (x : ClientState). x.request) (same_Some _ _
      (sym its_client ∙ ap (client_at gone) (sym same) ∙ known)) ∙ asked))
    where
      no_more : (r : LastRequest) → r ≡ Waits there.place own.call → answered reply r ≡ Waits p call → ⊥
      no_more r is replied = replies (sym (ap (answered reply) is) ∙ replied)
        where
          replies : RepliedTo own.call reply ≡ Waits p call → ⊥
          replies e = cc
  waits_still client session p call (inr apart) known asked =
      let was = is.clients client session p call (sym (other_client client apart) ∙ known) asked in
      let other : p ≢ place = λ same.
      apart (sym was.client_is ∙ ap (λ (v : Waiter). v.key.client) (same_Some _ _
      (sym was.waits ∙ ap (λ (o : OpenPlace). o.waiter) (same_Some _ _
      (sym was.found ∙ ap (found_at all) same ∙ found)) ∙ waits))) in
      record {
        there = was.there;
        found = ap (λ l. found_at l p) opens_are ∙ found_apart all place p other ∙ was.found;
        waiter = was.waiter;
        waits = was.waits;
        client_is = was.client_is;
      }

  pub less_waits : count_waiting gone.open_places + 1 ≡ count_waiting all
  less_waits =
      ap (λ l. count_waiting l + 1) opens_are
      ∙ sym (one_less all place there is.rise found
      ∙ ap (λ (o : Option Waiter). count_waiting (all_but all place) + cond (is_some o) 1 0) waits)

  pub ended_consistent : IsConsistent gone
  ended_consistent = record {
    rise = subst PlacesRise (sym opens_are)
        (rises_left (λ (x : OpenPlace). not (nat_eq x.place place)) (λ (o : OpenPlace). o.place) all is.rise);
    below = λ i o at. let was = left i o at in is.below was.0 o was.1;
    wait_queues = λ i o v at has. let was = left i o at in
        stays_waiter o v (is.wait_queues was.0 o v was.1 has) was.2;
    lie = λ i o at none. let was = left i o at in is.lie was.0 o was.1 none;
    clients = λ client session p call known asked.
        waits_still client session p call (same_client_or client w.key.client) known asked;
    time = is.time;
    space = omega (arith, is.space, less_waits);
  }

  -- the duty that is owed there is the client's
  pub awaited : place_awaited s.clients w.key.client ≡ Some there.place
  awaited = by_session (client_at s w.key.client) own.known
    where
      by_session : (o : Option ClientState) → o ≡ Some own.session
          → option_and_then (λ (c : ClientState). place_waiting c.request) o
          ≡ Some there.place
      by_session o is = ap (option_and_then (λ (c : ClientState). place_waiting c.request)) is
          ∙ ap place_waiting own.waits
