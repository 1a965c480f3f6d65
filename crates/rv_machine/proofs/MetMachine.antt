-- A machine in which a request met one.
use Rattle.std.proofs.Common.{◌≡◌, ◌≤◌, ◌∙◌, ◌++◌, ◌∷◌, ◌+◌, ℕ, zero, suc, List, [], Option, Some, None}
use Rattle.std.proofs.Common.{refl, sym, ap}
use Rattle.std.proofs.Common.{subst, arith}
use Rattle.std.specs.Prelude.{take, unwrap_or, vec_capacity, vec_len}
use Rattle.std.specs.FinMap.{get}
use Rattle.std.proofs.lemmas.List.{append-nil}
use Rattle.rv_text.specs.declared.message.Key.{Key}
use Rattle.rv_text.specs.declared.call.Call.{Call}
use Rattle.rv_text.specs.declared.call.Wait.{Wait}
use Rattle.rv_text.specs.declared.call.Wait.TheVariants.{Now, Millis, Forever}
use Rattle.rv_text.specs.declared.answer.Reply.{Reply}
use Rattle.rv_text.specs.Calls.{drains_of, side_of, wait_of}
use Rattle.rv_session.specs.OwedDuty.{OwedDuty}
use Rattle.rv_session.specs.declared.client.LastRequest.TheVariants.{RepliedTo}
use Rattle.rv_session.specs.Clients.{ClientStates, clients_asked, clients_told, with_clients}
use Rattle.rv_session.specs.Clients.{with_last_number}
use Rattle.rv_account.specs.declared.entry.Act.TheVariants.{Arrive}
use Rattle.rv_account.specs.Account.{entry}
use Rattle.rv_account.specs.Calls.{may_name, need_by, opposite}
use Rattle.rv_account.specs.state.State.{OpenPlace, State, place_list}
use Rattle.rv_account.specs.state.After.{Following, Settled, advanced, asked, closed, following, met_by}
use Rattle.rv_account.specs.state.After.{parked}
use Rattle.rv_account.specs.state.After.{request_after}
use Rattle.rv_account.specs.state.After.{settled_all, told_own, told_partner, with_open}
use Rattle.rv_machine.specs.declared.tables.Holdings.{Holdings}
use Rattle.rv_machine.specs.Arriving.{Arrives, MayArrive}
use Rattle.rv_machine.specs.Ending.{counted}
use Rattle.rv_machine.specs.open_places.Indexed.{ClosesFirst}
use Rattle.rv_machine.specs.Machines.{IsConsistent, IsWhole, keys_settled, state_in}
use Rattle.rv_machine.specs.open_places.OpenMap.{facing, count_waiting}
use Rattle.rv_machine.proofs.Asked.{arrived_by, asked_as}
use Rattle.rv_machine.proofs.Concluded.{asked_consistent}
use Rattle.rv_machine.proofs.EndingOne.{but_one}
use Rattle.rv_machine.proofs.GoneItem.{no_more_wait}
use Rattle.rv_machine.proofs.MetOne.{TellsBoth}
use Rattle.rv_machine.proofs.Recorded.{recorded_ready}
use Rattle.rv_machine.proofs.Told.{asked_own}

one_taken : (n : ℕ) (there : OpenPlace) (rest : List OpenPlace) → n ≡ 1 → take n (there ∷ rest) ≡ there ∷ []
one_taken n there rest is = ap (λ k. take k (there ∷ rest)) is

at_least_one : (wait : Option Wait) → 1 ≤ need_by wait
at_least_one None = omega arith
at_least_one (Some Now) = omega arith
at_least_one (Some (Millis zero)) = omega arith
at_least_one (Some (Millis (suc n))) = omega arith
at_least_one (Some Forever) = omega arith

module _ (m : Holdings) (moment : ℕ) (key : Key) (call : Call) (may : MayArrive m moment key call)
    (table : List OpenPlace) (there : OpenPlace) (other : Option OwedDuty)
    (met : ClosesFirst m.table table (opposite (side_of call)) there other) (one : drains_of call ≡ None)
    (now : Holdings) (both : TellsBoth m moment key call may table there other met now) (own : Reply)
    (told : told_own (state_in m) key call (there ∷ []) ≡ Some own) (clients : ClientStates)
    (are : clients ≡ with_clients now.clients (clients_told now.clients.clients key.client own)) where
  abbrev s : State
  s = state_in m

  abbrev settles : List Settled
  settles = settled_all (told_partner s key call) (there ∷ [])

  abbrev gone : State
  gone = closed s (there ∷ []) settles

  pub one_met : met_by s call ≡ there ∷ []
  one_met = ap (take (may_name call)) met.first
      ∙ one_taken (may_name call) there (facing table (opposite (side_of call)))
      (ap (λ (o : Option ℕ). unwrap_or o 1) one)

  -- before its entry is counted
  abbrev before : Holdings
  before =
      record {
        moment = now.moment;
        length = now.length;
        table = now.table;
        clients = clients;
        settled = now.settled;
      }

  abbrev new : Holdings
  new = counted before moment

  opens_are : now.table ≡ gone.open_places
  opens_are = both.table_is ∙ met.closes.rest ∙ sym (but_one m.table there)

  clients_are : clients.clients ≡ clients_asked gone.clients key (RepliedTo call own)
  clients_are = ap (λ (t : ClientStates). t.clients) are ∙ both.tells own

  epoch_is : clients.epoch ≡ s.epoch
  epoch_is = ap (λ (t : ClientStates). t.epoch) are ∙ both.epoch

  before_is : state_in before ≡ asked gone key (RepliedTo call own)
  before_is = (λ i. record {
    epoch = epoch_is i;
    moment = both.moment_is i;
    length = both.length_is i;
    open_places = opens_are i;
    clients = clients_are i;
  }) ∙ sym (asked_as gone key (RepliedTo call own))

  before_ready : IsWhole before
  before_ready = record {
    consistent = subst (λ (x : State). IsConsistent x) (sym before_is)
        (asked_consistent gone key (RepliedTo call own) may.next.session both.consistent both.known
        may.next.idle
        refl);
    most = ap (λ (t : ClientStates). t.most) are ∙ both.most ∙ may.ready.most;
    room = subst (λ (l : List OpenPlace). count_waiting l + vec_len now.settled ≤ vec_capacity now.settled)
        (sym both.table_is) both.room;
  }

  pub new_ready : IsWhole new
  new_ready =
      let fewer : count_waiting now.table ≤ count_waiting m.table =
      subst (λ (l : List OpenPlace). count_waiting l ≤ count_waiting m.table)
      (sym (both.table_is ∙ met.closes.rest))
      (no_more_wait m.table there may.ready.consistent.rise met.closes.found) in
      let need = at_least_one (wait_of call) in
      recorded_ready before moment before_ready may.time
      (omega (arith, may.space, fewer, need, both.length_is))

  opens : State
  opens = with_open gone (parked s moment key call (there ∷ []))

  opens_same : (with_open gone (parked s moment key call (there ∷ []))).open_places ≡ gone.open_places
  opens_same = append-nil gone.open_places

  after_is : state_in new ≡ (following s moment (Arrive key call)).after
  after_is =
      (λ i. record {
        epoch = epoch_is i;
        moment = moment;
        length = both.length_is i + 1;
        open_places = (opens_are ∙ sym opens_same) i;
        clients = clients_are i;
      })
      ∙ ap (λ (x : State). advanced x moment)
      (sym (asked_as (with_open gone (parked s moment key call (there ∷ []))) key (RepliedTo call own)))
      ∙ ap (λ (o : Option Reply). advanced (asked (with_open gone (parked s moment key call (there ∷ []))) key
      (request_after s.length call o)) moment) (sym told)
      ∙ ap (λ (f : Following). advanced f.after moment) (sym (arrived_by s moment key call (there ∷ [])
      one_met))

  pub new_arrives : (copy : Call) (places : List ℕ) → copy ≡ call → places ≡ there.place ∷ []
      → Arrives m new moment key call (entry moment (Arrive key copy) places)
  new_arrives copy places same places_are = record {
    made_is = λ i. entry moment (Arrive key (same i)) ((places_are ∙ ap place_list (sym one_met)) i);
    state = after_is;
    settles = both.listed ∙ ap (λ (f : Following). m.settled.items ++ keys_settled f.settles)
        (sym (arrived_by s moment key call (there ∷ []) one_met));
    session = with_last_number may.next.session key.number (RepliedTo call own);
    known = ap (λ m. get m key.client) clients_are
        ∙ asked_own gone.clients key (RepliedTo call own) may.next.session both.known;
    told = sym told ∙ ap (λ (f : Following). f.reply) (sym (arrived_by s moment key call (there ∷ [])
        one_met));
  }
