-- Which states a machine can resume from: what the states of legal accounts within the limits have, and a
-- machine's tables rest on.
use Rattle.std.specs.Prelude.{◌≡◌, ◌≢◌, ◌<◌, ◌≤◌, ◌+◌, ℕ, Some, None, IsSome, length, slice_get}
use Rattle.std.specs.FinMap.{len}
use Rattle.rv_text.specs.declared.call.Call.{Call}
use Rattle.rv_text.specs.declared.version.Version.{Version}
use Rattle.rv_text.specs.Calls.{item_of, side_of, wait_of}
use Rattle.rv_text.specs.Limits.{FitsCall, FitsIdentifier, FitsLast, FitsReply}
use Rattle.rv_text.specs.Limits.{IsOfEpoch}
use Rattle.rv_text.specs.Members.{max_identifier}
use Rattle.rv_session.specs.declared.client.LastRequest.TheVariants.{Fresh, Waits, RepliedTo, CancelledUnseen}
use Rattle.rv_account.specs.Calls.{Lasts, limit_of, opposite}
use Rattle.rv_account.specs.Limits.{max_moment}
use Rattle.rv_account.specs.rules.StepLimits.{most_open_places}
use Rattle.rv_account.specs.state.Agreement.{last_key_of}
pub use Rattle.rv_account.specs.state.Standing.{LiesOpen}
use Rattle.rv_account.specs.state.resume.Suiting.{SuitsCall}
use Rattle.rv_account.specs.state.State.{ClientState, LastRequest, OpenPlace, State, Waiter, client_at}
use Rattle.rv_account.specs.state.State.{waiting_count}

-- ---- room

-- the most clients of a state to resume from
abbrev pub most_resumed_clients : ℕ
most_resumed_clients = 100000

-- the last moment, the entries with one for each that waits, the clients, and what is open are no more than
-- there may be
pub record StaysInRoom (s : State) : Type 0 where
  pub time : s.moment ≤ max_moment
  pub space : s.length + waiting_count s ≤ max_identifier
  pub clients : len s.clients ≤ most_resumed_clients
  pub places : length s.open_places ≤ most_open_places

-- ---- what is open

-- it is one of the state's open places
abbrev pub IsOpenIn : State → OpenPlace → Type 0
IsOpenIn s there = (i : ℕ) × (slice_get s.open_places i ≡ Some there)

-- the request that waits at an open place is the last of its client's session, and was asked with a call that
-- waits past its arrival; the place has that call's side and item, and the limit of its wait since it came
pub record IsLastAt (s : State) (there : OpenPlace) (w : Waiter) : Type 0 where
  pub session : ClientState
  pub known : client_at s w.key.client ≡ Some session
  pub key_is : w.key ≡ last_key_of s.epoch w.key.client session
  pub call : Call
  pub waits : session.request ≡ Waits there.place call
  pub side : there.side ≡ side_of call
  pub item : there.item ≡ item_of call
  pub limit : there.limit ≡ limit_of w.since call
  pub may_wait : IsSome (wait_of call)
  pub lasts : Lasts (wait_of call)

-- the place is open, and a request of the client waits there
pub record IsAwaitedBy (s : State) (client place : ℕ) : Type 0 where
  pub there : OpenPlace
  pub is_open : IsOpenIn s there
  pub at_place : there.place ≡ place
  pub waiter : Waiter
  pub waits : there.waiter ≡ Some waiter
  pub client_is : waiter.key.client ≡ client

-- ---- clients

-- the call and the reply of a last request are within their limits; the call may get the reply, and the
-- consumer that this names, if it does, is of the epoch
abbrev pub FitsLastRequest : ℕ → Version → LastRequest → Type 0
FitsLastRequest epoch version Fresh = Unit {0}
FitsLastRequest epoch version (Waits place call) = FitsCall call
FitsLastRequest epoch version (RepliedTo call reply) =
    FitsCall call × FitsReply reply × IsOfEpoch epoch reply × SuitsCall version call reply
FitsLastRequest epoch version CancelledUnseen = Unit {0}

-- a client's session is within its limits, and its last number is 0 exactly where it asked nothing yet
pub record FitsSession (epoch client : ℕ) (session : ClientState) : Type 0 where
  pub client_fits : FitsIdentifier client
  pub incarnation : FitsIdentifier session.incarnation
  pub last : FitsLast session.last
  pub request : FitsLastRequest epoch session.version session.request
  pub unasked : session.last ≡ 0 → session.request ≡ Fresh
  pub fresh : session.request ≡ Fresh → session.last ≡ 0

-- ---- the state

-- a machine can resume from the state
pub record CanResume (s : State) : Type 0 where
  pub room : StaysInRoom s
  pub epoch : FitsIdentifier s.epoch
  -- the open places rise, all below the number of entries
  pub rise : (i j : ℕ) (one other : OpenPlace) → i < j → slice_get s.open_places i ≡ Some one
      → slice_get s.open_places j ≡ Some other → one.place < other.place
  pub below : (there : OpenPlace) → IsOpenIn s there → there.place < s.length
  -- no two that are open could have met
  pub apart : (one other : OpenPlace) → IsOpenIn s one → IsOpenIn s other → one.place ≢ other.place
      → opposite one.side ≢ Some other.side
  -- at each waits the last request of a client, which came no later than the last moment, or an item lies
  -- there
  pub awaited : (there : OpenPlace) (w : Waiter) → IsOpenIn s there → there.waiter ≡ Some w
      → IsLastAt s there w
  pub began : (there : OpenPlace) (w : Waiter) → IsOpenIn s there → there.waiter ≡ Some w
      → w.since ≤ s.moment
  pub lies : (there : OpenPlace) → IsOpenIn s there → there.waiter ≡ None → LiesOpen there
  -- nothing is due at the last moment
  pub undue : (there : OpenPlace) (limit : ℕ) → IsOpenIn s there → there.limit ≡ Some limit
      → s.moment < limit
  -- each client whose last request waits is the one that waits at that place
  pub standing : (client : ℕ) (session : ClientState) (place : ℕ) (call : Call)
      → client_at s client ≡ Some session → session.request ≡ Waits place call
      → IsAwaitedBy s client place
  pub sessions : (client : ℕ) (session : ClientState) → client_at s client ≡ Some session
      → FitsSession s.epoch client session
