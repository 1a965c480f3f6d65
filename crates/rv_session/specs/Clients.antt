-- A table of clients: the epoch, the most clients, and a map from clients to their states.
use Rattle.std.specs.Prelude.{ℕ, Option, Some, None, option_and_then, option_map, refl}
use Rattle.std.specs.Ordering.{nat_cmp}
use Rattle.std.specs.Coded.{Coded, code_by, coded×, coded_ℕ}
use Rattle.std.specs.FinMap.{FinMap, get, insert}
use Rattle.std.specs.FinMap as map
use Rattle.rv_text.specs.declared.message.Key.{Key}
use Rattle.rv_text.specs.declared.version.Version.{Version}
use Rattle.rv_text.specs.declared.call.Call.{Call}
use Rattle.rv_text.specs.declared.answer.Reply.{Reply}
use Rattle.rv_session.specs.declared.client.ClientState.{ClientState}
use Rattle.rv_session.specs.declared.client.LastRequest.{LastRequest}
use Rattle.rv_session.specs.declared.client.LastRequest.TheVariants.{Fresh, Waits, RepliedTo, CancelledUnseen}

pub record ClientStates : Type 0 where
  pub epoch : ℕ
  -- how many clients there can be
  pub most : ℕ
  pub clients : FinMap nat_cmp ClientState

-- a table is stored as its fields
abbrev pub clients_code : Coded ClientState → Coded ClientStates
clients_code code = code_by ((ℕ × ℕ) × FinMap nat_cmp ClientState)
    (coded× (coded× coded_ℕ coded_ℕ) (map.code coded_ℕ code)) (λ t. ((t.epoch, t.most), t.clients))
    (λ p. record { epoch = p.0.0; most = p.0.1; clients = p.1 }) (λ _. refl)

-- ---- a last request

-- where a request waits, and with which call
abbrev pub place_waiting : LastRequest → Option ℕ
place_waiting Fresh = None
place_waiting (Waits place call) = Some place
place_waiting (RepliedTo call reply) = None
place_waiting CancelledUnseen = None

abbrev pub call_waiting : LastRequest → Option Call
call_waiting Fresh = None
call_waiting (Waits place call) = Some call
call_waiting (RepliedTo call reply) = None
call_waiting CancelledUnseen = None

-- a request that waited has its reply
abbrev pub answered : Reply → LastRequest → LastRequest
answered reply Fresh = Fresh
answered reply (Waits place call) = RepliedTo call reply
answered reply (RepliedTo call other) = RepliedTo call other
answered reply CancelledUnseen = CancelledUnseen

-- ---- a client's state

-- a session in which nothing was asked yet
abbrev pub fresh_state : ℕ → Version → ClientState
fresh_state incarnation version =
    record { incarnation = incarnation; version = version; last = 0; request = Fresh }

abbrev pub with_request : ClientState → LastRequest → ClientState
with_request client request =
    record {
      incarnation = client.incarnation;
      version = client.version;
      last = client.last;
      request = request;
    }

-- this number is the session's last, and this became of its request
abbrev pub with_last_number : ClientState → ℕ → LastRequest → ClientState
with_last_number client number request =
    record {
      incarnation = client.incarnation;
      version = client.version;
      last = number;
      request = request;
    }

-- ---- the map

-- where the last request of a client waits, if it does
abbrev pub place_awaited : FinMap nat_cmp ClientState → ℕ → Option ℕ
place_awaited clients client = option_and_then (λ c. place_waiting c.request) (get clients client)

-- the version of a client's session
abbrev pub client_version : FinMap nat_cmp ClientState → ℕ → Option Version
client_version clients client = option_map (λ c. c.version) (get clients client)

-- a client that is known has this state now
abbrev pub insert_known : FinMap nat_cmp ClientState → ℕ → (ClientState → ClientState) → Option ClientState
    → FinMap nat_cmp ClientState
insert_known clients client becomes None = clients
insert_known clients client becomes (Some state) = insert clients client (becomes state)

-- the key's number is its client's last, and this became of its request
abbrev pub clients_asked : FinMap nat_cmp ClientState → Key → LastRequest → FinMap nat_cmp ClientState
clients_asked clients key request =
    insert_known clients key.client (λ state. with_last_number state key.number request)
    (get clients key.client)

-- the client's request, which waited, has its reply
abbrev pub clients_told : FinMap nat_cmp ClientState → ℕ → Reply → FinMap nat_cmp ClientState
clients_told clients client reply =
    insert_known clients client (λ state. with_request state (answered reply state.request))
    (get clients client)

-- ---- the table

-- the table with other clients; all else stays
abbrev pub with_clients : ClientStates → FinMap nat_cmp ClientState → ClientStates
with_clients t clients = record { epoch = t.epoch; most = t.most; clients = clients }
