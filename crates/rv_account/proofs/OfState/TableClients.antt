-- What a table of clients becomes is what the state's definitions make of the map.
use Rattle.std.proofs.Common.{◌≡◌, Option, Some, None, refl}
use Rattle.std.specs.Ordering.{nat_cmp}
use Rattle.std.specs.FinMap.{FinMap, get}
use Rattle.rv_text.specs.declared.message.Key.{Key}
use Rattle.rv_session.specs.Clients.{clients_asked, clients_told, insert_known, with_last_number}
use Rattle.rv_account.specs.state.State.{ClientState, LastRequest, State}
use Rattle.rv_account.specs.state.After.{Settled, answered, asked, insert_told, tell, with_last, with_request}

last_by : (s : State) (key : Key) (request : LastRequest) (o : Option ClientState)
    → (with_last s key request o).clients
    ≡ insert_known s.clients key.client (λ state. with_last_number state key.number request) o
last_by s key request None = refl
last_by s key request (Some state) = refl

-- by `begin`, `bury` and `conclude`
pub clients_after_asked : (s : State) (key : Key) (request : LastRequest)
    → (asked s key request).clients ≡ clients_asked s.clients key request
clients_after_asked s key request = last_by s key request (get s.clients key.client)

told_by : (clients : FinMap nat_cmp ClientState) (settled : Settled) (o : Option ClientState)
    → insert_told clients settled o
    ≡ insert_known clients settled.key.client
    (λ state. with_request state (answered settled.reply state.request)) o
told_by clients settled None = refl
told_by clients settled (Some state) = refl

-- by `settle`
pub clients_after_tell : (clients : FinMap nat_cmp ClientState) (settled : Settled)
    → tell clients settled ≡ clients_told clients settled.key.client settled.reply
clients_after_tell clients settled = told_by clients settled (get clients settled.key.client)
