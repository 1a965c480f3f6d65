-- What a state says of an account, part by part, by formulas over the account's places.
use Rattle.std.specs.Prelude.{◌≡◌, ◌↔◌, ℕ, List, Option, Some, None, IsSome, slice_get}
use Rattle.std.specs.FinMap.{len}
use Rattle.rv_text.specs.declared.message.Key.{Key}
use Rattle.rv_text.specs.declared.call.Call.{Call}
use Rattle.rv_text.specs.declared.call.Side.{Side}
use Rattle.rv_text.specs.declared.answer.Reply.{Reply}
use Rattle.rv_text.specs.Calls.{item_of, side_of, wait_of}
use Rattle.rv_account.specs.declared.entry.Entry.{Entry}
use Rattle.rv_account.specs.declared.entry.Act.TheVariants.{Arrive}
use Rattle.rv_account.specs.Account.{Account, Among, act_at, limit_at, moment_at, own_moment}
use Rattle.std.specs.Prelude as prelude
use Rattle.rv_account.specs.rules.Waiting.{Open, Waiting}
use Rattle.rv_account.specs.rules.Sessions.{HasOpened, LastNumber, NamesKey, SaidHello}
use Rattle.rv_account.specs.rules.Replies.{CancelledFirst, RepliesToArrival}
use Rattle.rv_account.specs.rules.Lines.{IsLine, IsLineOf}
use Rattle.rv_account.specs.rules.Counting.{NumberOf}
use Rattle.rv_account.specs.rules.Legal.{IsDueAt}
use Rattle.rv_account.specs.state.State.{OpenPlace, LastRequest, ClientState, State, client_at}
use Rattle.rv_account.specs.state.State.{client_waits, line}
use Rattle.rv_account.specs.state.State.{place_list, waiting_count}
use Rattle.rv_session.specs.declared.client.LastRequest.TheVariants.{Fresh, Waits, RepliedTo, CancelledUnseen}
use Rattle.rv_account.specs.state.After.{due_at, waiter_of}

-- the open place is that of an arrival that stands there, with its side, item, limit, and the request that
-- waits
pub record IsArrival (entries : List Entry) (there : OpenPlace) : Type 0 where
  pub key : Key
  pub call : Call
  pub moment : ℕ
  pub arrived : act_at entries there.place ≡ Some (Arrive key call)
  pub came : moment_at entries there.place ≡ Some moment
  pub side : there.side ≡ side_of call
  pub item : there.item ≡ item_of call
  pub limit : there.limit ≡ limit_at entries there.place
  pub waiter : there.waiter ≡ waiter_of key moment (wait_of call)

-- the request with this key stands at the place with this call, and waits
pub record WaitsThere (entries : List Entry) (key : Key) (place : ℕ) (call : Call) : Type 0 where
  pub arrived : act_at entries place ≡ Some (Arrive key call)
  pub waits : Waiting entries place

-- the request with this key arrived with this call, and has this reply
pub record HasReplied (entries : List Entry) (key : Key) (call : Call) (reply : Reply) : Type 0 where
  pub replies : RepliesToArrival entries key reply
  pub with_call : replies.call ≡ call

-- what became of the request with this key
abbrev pub BecameOf : List Entry → Key → LastRequest → Type 0
BecameOf entries key Fresh = key.number ≡ 0
BecameOf entries key (Waits place call) = WaitsThere entries key place call
BecameOf entries key (RepliedTo call reply) = HasReplied entries key call reply
BecameOf entries key CancelledUnseen = CancelledFirst entries key

-- the key of a client's last number
abbrev pub last_key_of : ℕ → ℕ → ClientState → Key
last_key_of epoch client session =
    record {
      epoch = epoch;
      client = client;
      incarnation = session.incarnation;
      number = session.last;
    }

-- the client's session, its last number, and what became of the request with that
pub record IsClient (a : Account) (client : ℕ) (session : ClientState) : Type 0 where
  pub opened : HasOpened a.entries client session.incarnation session.version
  pub last : LastNumber a.entries client session.last
  pub request : BecameOf a.entries (last_key_of a.epoch client session) session.request

abbrev pub IsClientOrNew : Account → ℕ → Option ClientState → Type 0
IsClientOrNew a client None = ¬ SaidHello a.entries client
IsClientOrNew a client (Some session) = IsClient a client session

-- the state is that of the account
pub record IsStateOf (a : Account) (s : State) : Type 0 where
  pub epoch : s.epoch ≡ a.epoch
  pub moment : s.moment ≡ own_moment a
  pub length : s.length ≡ prelude.length a.entries
  pub in_order : IsLineOf (Open a.entries) (place_list s.open_places)
  pub arrivals : (i : ℕ) (there : OpenPlace) → slice_get s.open_places i ≡ Some there
      → IsArrival a.entries there
  pub clients : (client : ℕ) → IsClientOrNew a client (client_at s client)

-- a request of the client waits at the place
pub record ClientWaitsAt (entries : List Entry) (client place : ℕ) : Type 0 where
  pub key : Key
  pub waits : Waiting entries place
  pub names : NamesKey entries client place key

-- the state says that the client waits there
abbrev pub SaysWaits : State → ℕ → ℕ → Type 0
SaysWaits s client place = (there : OpenPlace) × (client_waits s client ≡ Some there) × (there.place ≡ place)

-- and so it gives the line of each side, which open places wait, for which clients, what is due, and how many
-- wait or said hello
pub record TellsWaiting (a : Account) (s : State) : Type 0 where
  pub lines : (side : Side) → IsLine a.entries side (place_list (line s side))
  pub waiting : (i : ℕ) (there : OpenPlace) → slice_get s.open_places i ≡ Some there
      → Waiting a.entries there.place ↔ IsSome there.waiter
  pub of_client : (client place : ℕ) → ClientWaitsAt a.entries client place ↔ SaysWaits s client place
  pub due : (moment r : ℕ) → IsDueAt a.entries moment r ↔ Among (place_list (due_at s moment)) r
  pub number : NumberOf (Waiting a.entries) (waiting_count s)
  pub clients : NumberOf (SaidHello a.entries) (len s.clients)
