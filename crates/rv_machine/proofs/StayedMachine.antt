-- A machine in which a request found nobody and stayed.
use Rattle.std.proofs.Common.{◌≡◌, ◌≤◌, ◌∙◌, ◌++◌, ◌∷◌, ◌+◌, ℕ, List, [], Bool, cond, Option, Some, None}
use Rattle.std.proofs.Common.{is_some, refl, sym, ap, subst, arith, inl, inr, true, false}
use Rattle.std.proofs.lemmas.Bool.{false≢true}
use Rattle.std.proofs.lemmas.List.{append-nil}
use Rattle.std.specs.Prelude.{IfSome, option_and_then, vec_capacity, vec_len}
use Rattle.std.specs.Global.{Vec}
use Rattle.rv_text.specs.declared.message.Key.{Key}
use Rattle.rv_text.specs.declared.call.Call.{Call}
use Rattle.rv_text.specs.declared.call.Wait.{Wait}
use Rattle.rv_text.specs.declared.answer.Reply.{Reply}
use Rattle.rv_text.specs.declared.answer.Reply.TheVariants.{Done}
use Rattle.rv_text.specs.Calls.{side_of, wait_of}
use Rattle.rv_session.specs.OwedDuty.{OwedDuty}
use Rattle.rv_session.specs.declared.client.ClientState.{ClientState}
use Rattle.rv_session.specs.declared.client.LastRequest.TheVariants.{Waits}
use Rattle.rv_session.specs.Clients.{ClientStates, clients_asked, place_awaited, place_waiting}
use Rattle.rv_session.specs.Clients.{with_clients, with_last_number}
use Rattle.rv_account.specs.declared.entry.Act.TheVariants.{Arrive}
use Rattle.rv_account.specs.Account.{entry}
use Rattle.rv_account.specs.state.State.{OpenPlace, State, client_at, place_list}
use Rattle.rv_account.specs.state.After.{Following, opened_by, request_after, told_alone}
use Rattle.rv_account.specs.state.Moves.{told_again}
use Rattle.rv_model_queues.specs.Meeting.{StaysBy}
use Rattle.rv_machine.specs.declared.tables.Holdings.{Holdings}
use Rattle.rv_machine.specs.Arriving.{Arrives, MayArrive, after_put}
use Rattle.rv_machine.specs.Ending.{counted}
use Rattle.rv_machine.specs.open_places.Indexed.{own_duty}
use Rattle.rv_machine.specs.Machines.{IsConsistent, IsWhole, keys_settled, state_in}
use Rattle.rv_machine.specs.open_places.OpenMap.{opposed_in, count_waiting}
use Rattle.rv_machine.proofs.Asked.{asked_then_told}
use Rattle.rv_machine.proofs.Stayed.{follows_as, known_after, none_met, put_or_waits, stayed}
use Rattle.rv_machine.proofs.Stayed.{stayed_consistent}
use Rattle.rv_machine.proofs.Stayed.{waits_more}
use Rattle.rv_machine.proofs.Told.{asked_own}

module _ (m : Holdings) (moment : ℕ) (key : Key) (call : Call) (may : MayArrive m moment key call)
    (alone : opposed_in m.table (side_of call) ≡ []) (it : StaysBy (side_of call) (wait_of call)) where
  abbrev s : State
  s = state_in m

  abbrev o : OpenPlace
  o = opened_by s moment key call

  abbrev duty : OwedDuty
  duty = record { place = m.length; client = key.client }

  abbrev begun : ClientStates
  begun = with_clients m.clients (clients_asked m.clients.clients key (Waits m.length call))

  -- the put's duty is owed
  pub put_awaits : (put : Option OwedDuty) → put ≡ own_duty (wait_of call) duty
      → IfSome put (λ d. place_awaited begun.clients d.client ≡ Some d.place)
  put_awaits put is = by_wait (wait_of call) put is
    where
      by_wait : (wait : Option Wait) (put : Option OwedDuty) → put ≡ own_duty wait duty
          → IfSome put (λ d. place_awaited begun.clients d.client ≡ Some d.place)
      by_wait None put is = subst (λ (p : Option OwedDuty). IfSome p (λ d. place_awaited begun.clients
          d.client
          ≡ Some d.place)) (sym is)
          (ap (option_and_then (λ (c : ClientState). place_waiting c.request))
          (asked_own m.clients.clients key (Waits m.length call) may.next.session may.next.of_session.there))
      by_wait (Some w) put is = subst (λ (p : Option OwedDuty). IfSome p (λ d. place_awaited begun.clients
          d.client
          ≡ Some d.place)) (sym is) tt

  its_clients : (put : Option OwedDuty) → put ≡ own_duty (wait_of call) duty
      → after_put begun put
      ≡ with_clients m.clients (clients_asked m.clients.clients key (request_after m.length call
      (told_alone s call)))
  its_clients put is = elim (put_or_waits s call it) [
    | inl done ↦
        ap (after_put begun) (is ∙ ap (λ (w : Option Wait). own_duty w duty) done.0)
        ∙ ap (with_clients m.clients) (asked_then_told m.clients.clients key m.length call Done
        may.next.session
        may.next.of_session.there)
        ∙ ap (λ (r : Option Reply). with_clients m.clients (clients_asked m.clients.clients key
        (request_after m.length call r))) (sym done.1)
    | inr waits ↦
        ap (after_put begun) (is ∙ own_none (wait_of call) waits.0)
        ∙ ap (λ (r : Option Reply). with_clients m.clients (clients_asked m.clients.clients key
        (request_after m.length call r))) (sym waits.1)
  ]
    where
      own_none : (wait : Option Wait) → is_some {T = Wait} wait ≡ true → own_duty wait duty ≡ None
      own_none None some = absurd (false≢true some)
      own_none (Some w) some = refl

  module _ (copy : Call) (same : copy ≡ call) (table : List OpenPlace) (opens : table ≡ m.table ++ o ∷ [])
      (clients : ClientStates) (put : Option OwedDuty) (put_is : put ≡ own_duty (wait_of call) duty)
      (are : clients ≡ after_put begun put) (settled : Vec Key) where
    abbrev parked : Holdings
    parked = record {
      moment = m.moment;
      length = m.length;
      table = table;
      clients = clients;
      settled =
          settled;
    }

    abbrev new : Holdings
    new = counted parked moment

    clients_now : clients ≡ with_clients m.clients
        (clients_asked m.clients.clients key (request_after m.length call (told_alone s call)))
    clients_now = are ∙ its_clients put put_is

    state_now : state_in new ≡ stayed s moment key call (request_after s.length call (told_alone s call))
    state_now = λ i. record {
      epoch = (clients_now i).epoch;
      moment = moment;
      length = m.length + 1;
      open_places = opens i;
      clients = (clients_now i).clients;
    }

    pub stay_ready : vec_len settled ≡ vec_len m.settled
        → vec_len settled + (count_waiting m.table + 1) ≤ vec_capacity settled → IsWhole new
    stay_ready longer room = record {
      consistent = subst (λ (x : State). IsConsistent x) (sym state_now)
          (stayed_consistent s may.ready.consistent moment key call may.next it may.time may.space);
      most = ap (λ (c : ClientStates). c.most) clients_now ∙ may.ready.most;
      room = omega (
        arith,
        room,
        ap (λ (l : List OpenPlace). count_waiting l) opens,
        waits_more m.table o,
        at_most_one (is_some o.waiter),
      );
    }
      where
        at_most_one : (b : Bool) → cond b 1 0 ≤ 1
        at_most_one true = omega arith
        at_most_one false = omega arith

    pub stay_arrives : settled.items ≡ m.settled.items
        → Arrives m new moment key call (entry moment (Arrive key copy) [])
    stay_arrives items = record {
      made_is = (λ i. entry moment (Arrive key (same i))
          (sym (ap place_list (none_met s moment key call alone it)) i));
      state = state_now ∙ ap (λ (f : Following). f.after) (sym (follows_as s moment key call alone it));
      settles = items ∙ sym (append-nil m.settled.items)
          ∙ ap (λ (f : Following). m.settled.items ++ keys_settled f.settles)
          (sym (follows_as s moment key call alone it));
      session = with_last_number may.next.session key.number (request_after s.length call
          (told_alone s call));
      known = ap (λ (x : State). client_at x key.client) state_now
          ∙ known_after s may.ready.consistent moment key call may.next it may.time may.space;
      told = by_reply (told_alone s call)
          ∙ ap (λ (f : Following). f.reply) (sym (follows_as s moment key call alone it));
    }
      where
        by_reply : (r : Option Reply) → told_again (request_after s.length call r) ≡ r
        by_reply None = refl
        by_reply (Some x) = refl
