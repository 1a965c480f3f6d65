-- A client of which nothing waits gets a session whose request doesn't wait.
use Rattle.std.proofs.Common.{◌≡◌, ◌≢◌, ◌⊎◌, ◌∙◌, ℕ, Option, Some, None, refl, sym, ap, subst, inl, inr}
use Rattle.std.specs.Prelude.{option_and_then}
use Rattle.std.specs.FinMap.{get}
use Rattle.std.proofs.lemmas.Bool.{cases_eq}
use Rattle.rv_text.specs.declared.message.Key.{Key}
use Rattle.rv_text.specs.declared.call.Call.{Call}
use Rattle.rv_session.specs.declared.client.LastRequest.{LastRequest}
use Rattle.rv_session.specs.declared.client.LastRequest.TheVariants.{Waits}
use Rattle.rv_session.specs.Clients.{ClientStates, clients_asked, insert_known, place_awaited, place_waiting}
use Rattle.rv_session.specs.Clients.{with_clients, with_last_number}
use Rattle.rv_account.specs.state.State.{ClientState, OpenPlace, State, Waiter, client_at}
use Rattle.rv_account.specs.state.After.{asked, with_client, with_last}
use Rattle.rv_account.specs.state.Follows.{NumberIsNext}
use Rattle.rv_account.proofs.OfState.Words.{none-some, same_Some}
use Rattle.rv_machine.specs.declared.tables.Holdings.{Holdings}
use Rattle.rv_machine.specs.Machines.{IsConsistent, IsWhole, IsWaiter, AwaitsPlace, state_in}
use Rattle.rv_account.proofs.OfState.Resumed.Sessions.{put_other, put_own}

-- where the request of a session waits, by the session
abbrev pub awaited_by : Option ClientState → Option ℕ
awaited_by session = option_and_then (λ c. place_waiting c.request) session

no_place : (p : ℕ) → Some p ≡ None → ⊥
no_place p is = none-some p (sym is)

-- a session whose request waits is no client's of which nothing waits
waits_not : (session : ClientState) (place : ℕ) (call : Call) → session.request ≡ Waits place call
    → place_waiting session.request ≡ None → ⊥
waits_not session place call waits idle = no_place place (sym (ap place_waiting waits) ∙ idle)

module _ (s : State) (client : ℕ) (session : ClientState) (is : IsConsistent s)
    (idle : place_awaited s.clients client ≡ None) (quiet : place_waiting session.request ≡ None) where
  abbrev now : State
  now = with_client s client session

  differs : (there : OpenPlace) (w : Waiter) → IsWaiter s there w → w.key.client ≢ client
  differs there w own same =
      waits_not own.session there.place own.call own.waits
      (ap awaited_by (sym own.known ∙ ap (client_at s) same) ∙ idle)

  still_waiter : (there : OpenPlace) (w : Waiter) → IsWaiter s there w → IsWaiter now there w
  still_waiter there w own = record {
    session = own.session;
    known = put_other s.clients client w.key.client session (differs there w own) ∙ own.known;
    key_is = own.key_is;
    call = own.call;
    waits = own.waits;
    side = own.side;
    item = own.item;
    lasts = own.lasts;
  }

  still_for : (other place : ℕ) (its : ClientState) (call : Call) → (other ≡ client) ⊎ (other ≢ client)
      → client_at now other ≡ Some its → its.request ≡ Waits place call → AwaitsPlace now other place
  still_for other place its call (inl same) known waits =
      let own : session ≡ its = same_Some _ _ (sym (put_own s.clients client session)
      ∙ ap (client_at now) (sym same) ∙ known) in
      absurd (waits_not its place call waits (ap (λ (c : ClientState). place_waiting c.request) (sym own)
      ∙ quiet))
  still_for other place its call (inr apart) known waits =
      let was = is.clients other its place call (sym (put_other s.clients client other session apart) ∙ known)
      waits in
      record {
        there = was.there;
        found = was.found;
        waiter = was.waiter;
        waits = was.waits;
        client_is = was.client_is;
      }

  -- a state where nothing of a client waits, and nothing does in its new session
  pub quiet_consistent : IsConsistent now
  quiet_consistent = record {
    rise = is.rise;
    below = is.below;
    wait_queues = λ i there w at has. still_waiter there w (is.wait_queues i there w at has);
    lie = is.lie;
    clients = λ other its place call known waits.
        still_for other place its call (cases_eq other client) known waits;
    time = is.time;
    space = is.space;
  }

-- ---- a session's next request

-- the state with other clients
abbrev pub with_client_map : State → Key → LastRequest → State
with_client_map s key request =
    record {
      epoch = s.epoch;
      moment = s.moment;
      length = s.length;
      open_places = s.open_places;
      clients = clients_asked s.clients key request;
    }

asked_by : (s : State) (key : Key) (request : LastRequest) (o : Option ClientState)
    → with_last s key request o
    ≡ record {
      epoch = s.epoch;
      moment = s.moment;
      length = s.length;
      open_places = s.open_places;
      clients = insert_known s.clients key.client (λ state. with_last_number state key.number request) o;
    }
asked_by s key request None = refl
asked_by s key request (Some session) = refl

-- a number that was asked changes the map of clients alone
pub asked_is : (s : State) (key : Key) (request : LastRequest)
    → asked s key request ≡ with_client_map s key request
asked_is s key request = asked_by s key request (get s.clients key.client)

-- the next number of a session of which nothing waits was asked, and its request doesn't wait
pub asked_consistent : (s : State) (key : Key) (request : LastRequest) (session : ClientState)
    → IsConsistent s
    → client_at s key.client ≡ Some session → place_waiting session.request ≡ None
    → place_waiting request ≡ None → IsConsistent (asked s key request)
asked_consistent s key request session is known idle quiet =
    subst (λ (x : State). IsConsistent x) (sym (ap (with_last s key request) known))
    (quiet_consistent s key.client (with_last_number session key.number request) is
    (ap awaited_by known ∙ idle) quiet)

-- the machine whose clients were asked so
abbrev pub asked_in : Holdings → Key → LastRequest → Holdings
asked_in m key request =
    record {
      moment = m.moment;
      length = m.length;
      table = m.table;
      clients = with_clients m.clients (clients_asked m.clients.clients key request);
      settled = m.settled;
    }

pub asked_state : (m : Holdings) (key : Key) (request : LastRequest)
    → state_in (asked_in m key request) ≡ asked (state_in m) key request
asked_state m key request = sym (asked_is (state_in m) key request)

pub asked_ready : (m : Holdings) (key : Key) (request : LastRequest) (session : ClientState) → IsWhole m
    → client_at (state_in m) key.client ≡ Some session → place_waiting session.request ≡ None
    → place_waiting request ≡ None → IsWhole (asked_in m key request)
asked_ready m key request session ready known idle quiet = record {
  consistent = subst (λ (x : State). IsConsistent x) (sym (asked_state m key request))
      (asked_consistent (state_in m) key request session ready.consistent known idle quiet);
  most = ready.most;
  room = ready.room;
}

-- the machine with other clients
abbrev pub with_states : Holdings → ClientStates → Holdings
with_states m clients =
    record {
      moment = m.moment;
      length = m.length;
      table = m.table;
      clients = clients;
      settled = m.settled;
    }

-- ready, as the table of clients gives it
pub concluded_ready : (m : Holdings) (key : Key) (request : LastRequest) (clients : ClientStates)
    → IsWhole m
    → NumberIsNext (state_in m) key → place_waiting request ≡ None
    → clients ≡ with_clients m.clients (clients_asked m.clients.clients key request)
    → IsWhole (with_states m clients)
concluded_ready m key request clients ready next quiet is =
    subst (λ (t : ClientStates). IsWhole (with_states m t)) (sym is)
    (asked_ready m key request next.session ready next.of_session.there next.idle quiet)
