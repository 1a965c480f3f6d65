-- A state to resume from is one that a machine can hold.
use Rattle.std.proofs.Common.{◌≡◌, ◌∙◌, ℕ, Option, Some, None, IsSome, sym, ap, arith, refl, slice_get}
use Rattle.std.proofs.Common.{subst}
use Rattle.std.proofs.lemmas.Bool.{false≢true}
use Rattle.std.specs.Prelude.{option_and_then}
use Rattle.rv_account.specs.Calls.{opposite}
use Rattle.rv_text.specs.Calls.{side_of, wait_of}
use Rattle.rv_text.specs.Limits.{FitsSide}
use Rattle.rv_text.specs.declared.call.Call.{Call}
use Rattle.rv_text.specs.declared.call.Call.TheVariants as call
use Rattle.rv_text.specs.declared.call.Side.{Side}
use Rattle.rv_session.specs.Clients.{place_awaited, place_waiting}
use Rattle.rv_session.specs.declared.client.LastRequest.TheVariants.{Waits}
use Rattle.rv_machine.proofs.OfOpenPlaces.Indexing.{stands_found}
use Rattle.rv_machine.specs.open_places.OpenMap.{found_at}
use Rattle.rv_machine.specs.open_places.Reopening.{MayResume, StandsOpen}
use Rattle.rv_account.proofs.OfState.Resumed.Decided.{side_fits}
use Rattle.rv_account.specs.state.resume.Resuming.{CanResume, FitsLastRequest, IsLastAt}
use Rattle.rv_account.specs.state.State.{ClientState, OpenPlace, State, Waiter, client_at}
use Rattle.rv_account.proofs.OfState.Words.{none-some}
use Rattle.rv_machine.specs.Machines.{AwaitsPlace, IsConsistent, IsWaiter, LiesThere}
use Rattle.rv_machine.specs.Numbering.{AreNumbered}

module _ (s : State) (is : CanResume s) where
  waiter_is : (i : ℕ) (there : OpenPlace) (w : Waiter) → slice_get s.open_places i ≡ Some there
      → there.waiter ≡ Some w → IsWaiter s there w
  waiter_is i there w at waits =
      let own = is.awaited there w (i, at) waits in
      record {
        session = own.session;
        known = own.known;
        key_is = own.key_is;
        call = own.call;
        waits = own.waits;
        side = own.side;
        item = own.item;
        lasts = (own.may_wait, own.lasts);
      }

  lies_there : (i : ℕ) (there : OpenPlace) → slice_get s.open_places i ≡ Some there → there.waiter ≡ None
      → LiesThere there
  lies_there i there at none =
      let own = is.lies there (i, at) none in
      record { queue = own.queue; side = own.side; item = own.item; has = own.has }

  awaits_place : (client : ℕ) (session : ClientState) (place : ℕ) (call : Call)
      → client_at s client ≡ Some session → session.request ≡ Waits place call → AwaitsPlace s client place
  awaits_place client session place call known waits =
      let own = is.standing client session place call known waits in
      record {
        there = own.there;
        found = subst (λ p. found_at s.open_places p ≡ Some own.there) own.at_place
            (stands_found s.open_places own.is_open.0 own.there is.rise own.is_open.1);
        waiter = own.waiter;
        waits = own.waits;
        client_is = own.client_is;
      }

  pub resumed_consistent : IsConsistent s
  resumed_consistent = record {
    rise = is.rise;
    below = λ i there at. is.below there (i, at);
    wait_queues = waiter_is;
    lie = lies_there;
    clients = awaits_place;
    time = is.room.time;
    space = let space = is.room.space in omega (arith, space);
  }

  pub resumed_numbered : AreNumbered s
  resumed_numbered client session known =
      let own = is.sessions client session known in
      record { unasked = own.unasked; zero = own.fresh }

  -- ---- what is open

  stays_by : (c : Call) → IsSome (wait_of c) → IsSome (opposite (side_of c))
  stays_by (call.Put queue item) waits = refl
  stays_by (call.Transfer queue item wait) waits = refl
  stays_by (call.Take queue wait) waits = refl
  stays_by (call.Swap exchanger item wait) waits = refl
  stays_by (call.Count queue) waits = absurd (false≢true waits)
  stays_by (call.Peek queue) waits = absurd (false≢true waits)
  stays_by (call.Drain queue max) waits = refl

  awaited_at : (there : OpenPlace) (w : Waiter) → IsLastAt s there w
      → place_awaited s.clients w.key.client ≡ Some there.place
  awaited_at there w own =
      ap (option_and_then (λ (c : ClientState). place_waiting c.request)) own.known
      ∙ ap place_waiting own.waits

  stands_by : (i : ℕ) (there : OpenPlace) → slice_get s.open_places i ≡ Some there → (o : Option Waiter)
      → there.waiter ≡ o → StandsOpen there s.clients
  stands_by i there at None none =
      let own = is.lies there (i, at) none in
      record {
        fits = subst FitsSide (sym own.side) own.queue_fits;
        stays = subst (λ (side : Side). IsSome (opposite side)) (sym own.side) refl;
        limited = λ limit. absurd (false≢true (subst (λ (o : Option ℕ). IsSome o) own.unlimited limit));
        awaited = λ w waits. absurd (none-some w (sym none ∙ waits));
        lies = λ _. (own.queue, own.side);
      }
  stands_by i there at (Some w) waits =
      let own = is.awaited there w (i, at) waits in
      record {
        fits = subst FitsSide (sym own.side) (side_fits own.call
            (subst (FitsLastRequest s.epoch own.session.version) own.waits
            (is.sessions w.key.client own.session own.known).request));
        stays = subst (λ (side : Side). IsSome (opposite side)) (sym own.side)
            (stays_by own.call own.may_wait);
        limited = λ _. subst (λ (o : Option Waiter). IsSome o) (sym waits) refl;
        awaited = λ other has. awaited_at there other (is.awaited there other (i, at) has);
        lies = λ none. absurd (none-some w (sym none ∙ waits));
      }

  pub resumed_opens : MayResume s.open_places s.clients
  resumed_opens = record {
    few = let places = is.room.places in omega (arith, places);
    rise = is.rise;
    stand = λ i there at. stands_by i there at there.waiter refl;
    apart = λ i j one other at there. is.apart one other (i, at) (j, there);
  }
