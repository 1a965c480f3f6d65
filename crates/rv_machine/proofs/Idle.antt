-- A client that waits nowhere can have any other session that waits nowhere.
use Rattle.std.proofs.Common.{◌≡◌, ◌≢◌, ◌∙◌, ℕ, Some, None, inl, inr, sym, ap, subst}
use Rattle.std.proofs.lemmas.Bool.{cases_eq}
use Rattle.std.specs.FinMap.{insert}
use Rattle.rv_text.specs.declared.call.Call.{Call}
use Rattle.rv_session.specs.declared.client.LastRequest.TheVariants.{Waits}
use Rattle.rv_session.specs.Clients.{ClientStates, place_waiting}
use Rattle.rv_account.specs.state.State.{ClientState, OpenPlace, State, Waiter, client_at}
use Rattle.rv_account.specs.state.After.{with_client}
use Rattle.rv_account.proofs.OfState.Words.{none-some, same_Some}
use Rattle.rv_machine.specs.declared.tables.Holdings.{Holdings}
use Rattle.rv_machine.specs.Entering.{WaitsForNothing}
use Rattle.rv_machine.specs.Machines.{IsConsistent, IsWhole, IsWaiter, AwaitsPlace, state_in}
use Rattle.rv_account.proofs.OfState.Resumed.Sessions.{put_other, put_own}

module _ (s : State) (is : IsConsistent s) (client : ℕ) (idle : WaitsForNothing s client) (session :
    ClientState)
    (quiet : place_waiting session.request ≡ None) where
  abbrev t : State
  t = with_client s client session

  other_kept : (other : ℕ) → other ≢ client → client_at t other ≡ client_at s other
  other_kept other apart = put_other s.clients client other session apart

  waits_elsewhere : (there : OpenPlace) (w : Waiter) → IsWaiter s there w → w.key.client ≢ client
  waits_elsewhere there w own same =
      none-some there.place
      (sym (idle own.session (ap (client_at s) (sym same) ∙ own.known)) ∙ ap place_waiting own.waits)

  kept_waiter : (there : OpenPlace) (w : Waiter) → IsWaiter s there w → IsWaiter t there w
  kept_waiter there w own = record {
    session = own.session;
    known = other_kept w.key.client (waits_elsewhere there w own) ∙ own.known;
    key_is = own.key_is;
    call = own.call;
    waits = own.waits;
    side = own.side;
    item = own.item;
    lasts = own.lasts;
  }

  kept_wait : (other place : ℕ) → AwaitsPlace s other place → AwaitsPlace t other place
  kept_wait other place waits = record {
    there = waits.there;
    found = waits.found;
    waiter = waits.waiter;
    waits = waits.waits;
    client_is = waits.client_is;
  }

  its_session : (other : ℕ) (x : ClientState) → other ≡ client → client_at t other ≡ Some x → session ≡ x
  its_session other x same known =
      same_Some _ _ (sym (put_own s.clients client session) ∙ ap (client_at t) (sym same) ∙ known)

  still_waits : (other : ℕ) (x : ClientState) (place : ℕ) (call : Call) → client_at t other ≡ Some x
      → x.request ≡ Waits place call → AwaitsPlace t other place
  still_waits other x place call known waits = elim (cases_eq other client) [
    | inl same ↦ absurd (none-some place
        (sym quiet ∙ ap (λ (y : ClientState). place_waiting y.request) (its_session other x same known)
        ∙ ap place_waiting waits))
    | inr apart ↦
        kept_wait other place (is.clients other x place call (sym (other_kept other apart) ∙ known) waits)
  ]

  pub put_consistent : IsConsistent t
  put_consistent = record {
    rise = is.rise;
    below = is.below;
    wait_queues = λ i there w at has. kept_waiter there w (is.wait_queues i there w at has);
    lie = is.lie;
    clients = still_waits;
    time = is.time;
    space = is.space;
  }

-- the machine with other clients, of which one has another session
abbrev pub with_table : Holdings → ClientStates → Holdings
with_table m clients =
    record { moment = m.moment; length = m.length; table = m.table; clients = clients; settled = m.settled }

module _ (m : Holdings) (ready : IsWhole m) (client : ℕ) (session : ClientState) (clients : ClientStates)
    (put : clients.clients ≡ insert m.clients.clients client session)
    (epoch : clients.epoch ≡ m.clients.epoch) where
  pub put_state : state_in (with_table m clients) ≡ with_client (state_in m) client session
  put_state = λ i. record {
    epoch = epoch i;
    moment = m.moment;
    length = m.length;
    open_places = m.table;
    clients = put i;
  }

  pub put_ready : clients.most ≡ m.clients.most → WaitsForNothing (state_in m) client
      → place_waiting session.request ≡ None → IsWhole (with_table m clients)
  put_ready most idle quiet = record {
    consistent = subst IsConsistent (sym put_state)
        (put_consistent (state_in m) ready.consistent client idle session quiet);
    most = most ∙ ready.most;
    room = ready.room;
  }
