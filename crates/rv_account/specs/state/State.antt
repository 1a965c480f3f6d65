-- The state of an account: all that its future depends on, without its entries.
use Rattle.std.specs.Prelude.{ℕ, Bool, false, List, [], map, find, filter, length, nat_eq, Option, Some, None}
use Rattle.std.specs.Prelude.{is_some, option_and_then}
use Rattle.std.specs.FinMap.{FinMap, empty, get}
use Rattle.std.specs.Ordering.{nat_cmp}
use Rattle.rv_text.specs.declared.call.Call.{Call}
use Rattle.rv_text.specs.declared.call.Side.{Side}
use Rattle.rv_text.specs.declared.call.Side.TheVariants.{Gives, Takes, Looks, Exchanges}
use Rattle.rv_text.specs.Calls.{side_of}
use Rattle.rv_account.specs.Calls.{opposite}
-- ---- what is open, and clients

-- the request that waits at a place, and the moment of its arrival, which no step uses
pub use Rattle.rv_session.specs.declared.open.Waiter.{Waiter}
-- an open arrival: its place, its side of a queue or exchanger, its item and its limit if it has them, and
-- the request that waits there; none where an item lies there
pub use Rattle.rv_session.specs.declared.open.OpenPlace.{OpenPlace}
-- the last request of a session: none yet; waiting at a place; replied to; or cancelled before it came. The
-- whole call stays, since a request of that number with another call is refused
pub use Rattle.rv_session.specs.declared.client.LastRequest.{LastRequest}
-- a client's session, its last number, and what became of the request with that
pub use Rattle.rv_session.specs.declared.client.ClientState.{ClientState}
-- where a last request waits, and with which call
pub use Rattle.rv_session.specs.Clients.{call_waiting, place_waiting}

-- ---- the state

-- the epoch; the last moment, which before the first entry is the opening; how many entries there are; the
-- open places in their order; and the clients that said hello
pub record State : Type 0 where
  pub epoch : ℕ
  pub moment : ℕ
  pub length : ℕ
  pub open_places : List OpenPlace
  pub clients : FinMap nat_cmp ClientState

-- the state of an empty account
abbrev pub opening : ℕ → ℕ → State
opening epoch opened =
    record {
      epoch = epoch;
      moment = opened;
      length = 0;
      open_places = [];
      clients = empty;
    }

-- ---- what is read off a state

abbrev pub same_side : Side → Side → Bool
same_side (Gives queue) (Gives other) = nat_eq queue other
same_side (Takes queue) (Takes other) = nat_eq queue other
same_side (Looks queue) (Looks other) = nat_eq queue other
same_side (Exchanges exchanger) (Exchanges other) = nat_eq exchanger other
same_side _ _ = false

-- the places of some that are open
abbrev pub place_list : List OpenPlace → List ℕ
place_list there = map (λ o. o.place) there

-- the open places of a side, the oldest first
abbrev pub line : State → Side → List OpenPlace
line s side = filter (λ o. same_side o.side side) s.open_places

abbrev pub line_of : State → Option Side → List OpenPlace
line_of s None = []
line_of s (Some side) = line s side

-- the open places that an arrival with this call might meet, the oldest first
abbrev pub opposites : State → Call → List OpenPlace
opposites s call = line_of s (opposite (side_of call))

abbrev pub open_at : State → ℕ → Option OpenPlace
open_at s place = find (λ o. nat_eq o.place place) s.open_places

abbrev pub client_at : State → ℕ → Option ClientState
client_at s client = get s.clients client

-- the open place at which the client's request waits, if one does
abbrev pub client_waits : State → ℕ → Option OpenPlace
client_waits s client =
    option_and_then (open_at s)
    (option_and_then (λ c. place_waiting c.request) (client_at s client))

-- how many requests wait
abbrev pub waiting_count : State → ℕ
waiting_count s = length (filter (λ o. is_some o.waiter) s.open_places)
