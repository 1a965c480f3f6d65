-- What it is that a request arrives at a machine.
use Rattle.std.specs.Prelude.{◌≡◌, ◌+◌, ◌≤◌, ◌++◌, ℕ, Option, Some, None}
use Rattle.std.specs.Prelude.{vec_capacity, vec_len}
use Rattle.rv_machine.specs.open_places.OpenMap.{most_counted}
use Rattle.rv_text.specs.declared.message.Key.{Key}
use Rattle.rv_text.specs.declared.call.Call.{Call}
use Rattle.rv_text.specs.Limits.{FitsCall}
use Rattle.rv_text.specs.declared.answer.Reply.TheVariants.{Done}
use Rattle.rv_session.specs.OwedDuty.{OwedDuty}
use Rattle.rv_session.specs.Clients.{ClientStates, clients_told, with_clients}
use Rattle.rv_account.specs.declared.entry.Entry.{Entry}
use Rattle.rv_account.specs.declared.entry.Act.TheVariants.{Arrive}
use Rattle.rv_account.specs.Account.{entry}
use Rattle.rv_account.specs.Calls.{need_of}
use Rattle.rv_account.specs.rules.Steps.{max_moment}
use Rattle.rv_account.specs.state.State.{ClientState, client_at}
use Rattle.rv_account.specs.state.After.{following}
use Rattle.rv_account.specs.state.Follows.{NumberIsNext, partners_of}
use Rattle.rv_account.specs.state.Moves.{told_again}
use Rattle.rv_machine.specs.declared.tables.Holdings.{Holdings}
use Rattle.rv_machine.specs.Machines.{IsWhole, keys_settled, state_in}
use Rattle.rv_machine.specs.open_places.OpenMap.{count_waiting}

-- a request of this key with this call is its session's next, and there is room for its entries
pub record MayArrive (m : Holdings) (moment : ℕ) (key : Key) (call : Call) : Type 0 where
  pub ready : IsWhole m
  pub later : m.moment ≤ moment
  pub time : moment ≤ max_moment
  pub fits : FitsCall call
  pub next : NumberIsNext (state_in m) key
  pub space : m.length + count_waiting m.table + need_of call ≤ most_counted

-- it arrived: the state is what its entry makes of the one before, the keys that this settles are listed, and
-- its session has the entry's own reply
pub record Arrives (old new : Holdings) (moment : ℕ) (key : Key) (call : Call) (made : Entry) :
    Type 0 where
  pub made_is : made ≡ entry moment (Arrive key call) (partners_of (state_in old) (Arrive key call))
  pub state : state_in new ≡ (following (state_in old) moment (Arrive key call)).after
  pub settles : new.settled.items
      ≡ old.settled.items ++ keys_settled (following (state_in old) moment (Arrive key call)).settles
  pub session : ClientState
  pub known : client_at (state_in new) key.client ≡ Some session
  pub told : told_again session.request ≡ (following (state_in old) moment (Arrive key call)).reply

-- there is room to list one more request than those that wait
abbrev pub CanListOneMore : Holdings → Type 0
CanListOneMore m = vec_len m.settled + (count_waiting m.table + 1) ≤ vec_capacity m.settled

-- the list of the settled has as much room or more, and nothing else changed
pub record DiffersInRoom (old new : Holdings) : Type 0 where
  pub moment : new.moment ≡ old.moment
  pub length : new.length ≡ old.length
  pub table : new.table ≡ old.table
  pub clients : new.clients ≡ old.clients
  pub items : new.settled.items ≡ old.settled.items
  pub listed : vec_len new.settled ≡ vec_len old.settled
  pub room : vec_capacity old.settled ≤ vec_capacity new.settled

-- nothing changed but room
pub record IsAsBefore (old new : Holdings) : Type 0 where
  pub state : state_in new ≡ state_in old
  pub settled : new.settled.items ≡ old.settled.items

-- the clients where a put, whose own duty came back, has the reply that it is done
abbrev pub after_put : ClientStates → Option OwedDuty → ClientStates
after_put clients None = clients
after_put clients (Some duty) = with_clients clients (clients_told clients.clients duty.client Done)
