-- The state that a machine holds, what always holds of it, and what a step reports.
use Rattle.std.specs.Prelude.{◌≡◌, ◌+◌, ◌≤◌, ◌++◌, [], ℕ, List, map, Option, Some, None, IsSome}
use Rattle.std.specs.Prelude.{option_to_list, slice_get}
use Rattle.std.specs.Prelude.{vec_capacity, vec_len}
use Rattle.rv_machine.specs.open_places.OpenMap.{most_counted}
use Rattle.rv_text.specs.declared.message.Key.{Key}
use Rattle.rv_text.specs.declared.message.Message.{Message}
use Rattle.rv_text.specs.declared.answer.Refusal.{Refusal}
use Rattle.rv_text.specs.declared.call.Call.{Call}
use Rattle.rv_text.specs.declared.call.Side.TheVariants.{Gives}
use Rattle.rv_text.specs.declared.answer.Answer.{Answer}
use Rattle.rv_text.specs.declared.answer.Answer.TheVariants as answer
use Rattle.rv_text.specs.Calls.{item_of, side_of, wait_of}
use Rattle.rv_session.specs.declared.client.LastRequest.TheVariants.{Waits}
use Rattle.rv_account.specs.declared.entry.Entry.{Entry}
use Rattle.rv_account.specs.Calls.{Lasts}
use Rattle.rv_account.specs.rules.StepLimits.{StepLimits}
use Rattle.rv_account.specs.rules.Steps.{max_moment}
use Rattle.rv_account.specs.state.State.{ClientState, OpenPlace, State, Waiter, client_at}
use Rattle.rv_account.specs.state.After.{Settled}
use Rattle.rv_account.specs.state.Moves.{Move, StateNextAtUnder, answer_told, told_again}
use Rattle.rv_account.specs.rules.Reach.{most_known}
use Rattle.rv_machine.specs.declared.tables.Holdings.{Holdings}
use Rattle.rv_machine.specs.declared.machine.Said.{Said}
use Rattle.rv_machine.specs.declared.machine.Said.TheVariants as said
use Rattle.rv_machine.specs.open_places.OpenMap.{PlacesRise, StandBelow, found_at, count_waiting}

-- ---- what a machine holds

-- the state that its tables are
abbrev pub state_in : Holdings → State
state_in m =
    record {
      epoch = m.clients.epoch;
      moment = m.moment;
      length = m.length;
      open_places = m.table;
      clients = m.clients.clients;
    }

-- ---- what holds of such a state

-- the key of a session's last number
abbrev pub last_key_in : State → ℕ → ClientState → Key
last_key_in s client session =
    record {
      epoch = s.epoch;
      client = client;
      incarnation = session.incarnation;
      number = session.last;
    }

-- the call waits for a partner, and past the moment of its arrival
abbrev pub WaitsLong : Call → Type 0
WaitsLong call = IsSome (wait_of call) × Lasts (wait_of call)

-- the request that waits at an open place is its client's last, with the side and the item of its call
pub record IsWaiter (s : State) (there : OpenPlace) (w : Waiter) : Type 0 where
  pub session : ClientState
  pub known : client_at s w.key.client ≡ Some session
  pub key_is : w.key ≡ last_key_in s w.key.client session
  pub call : Call
  pub waits : session.request ≡ Waits there.place call
  pub side : there.side ≡ side_of call
  pub item : there.item ≡ item_of call
  pub lasts : WaitsLong call

-- a request of the client waits at the open place
pub record AwaitsPlace (s : State) (client place : ℕ) : Type 0 where
  pub there : OpenPlace
  pub found : found_at s.open_places place ≡ Some there
  pub waiter : Waiter
  pub waits : there.waiter ≡ Some waiter
  pub client_is : waiter.key.client ≡ client

-- a put's item lies at the open place
pub record LiesThere (there : OpenPlace) : Type 0 where
  pub queue : ℕ
  pub side : there.side ≡ Gives queue
  pub item : List ℕ
  pub has : there.item ≡ Some item

-- the open places rise, all below the number of entries; the requests that wait there are those that the
-- clients wait for, and where none waits a put's item lies; the moment, and the entries with one for each
-- that waits, are within their limits
pub record IsConsistent (s : State) : Type 0 where
  pub rise : PlacesRise s.open_places
  pub below : StandBelow s.open_places s.length
  pub wait_queues : (i : ℕ) (there : OpenPlace) (w : Waiter) → slice_get s.open_places i ≡ Some there
      → there.waiter ≡ Some w → IsWaiter s there w
  pub lie : (i : ℕ) (there : OpenPlace) → slice_get s.open_places i ≡ Some there → there.waiter ≡ None
      → LiesThere there
  pub clients : (client : ℕ) (session : ClientState) (place : ℕ) (call : Call)
      → client_at s client ≡ Some session → session.request ≡ Waits place call → AwaitsPlace s client place
  pub time : s.moment ≤ max_moment
  pub space : s.length + count_waiting s.open_places ≤ most_counted

-- the machine's state is consistent, its most clients are those of a state to resume from, and there is room
-- to list all that wait among those that a step settles
pub record IsWhole (m : Holdings) : Type 0 where
  pub consistent : IsConsistent (state_in m)
  pub most : m.clients.most ≡ most_known
  pub room : count_waiting m.table + vec_len m.settled ≤ vec_capacity m.settled

-- the list of the settled takes no more room than there was for it
abbrev pub SameListRoom : Holdings → Holdings → Type 0
SameListRoom old new = vec_capacity new.settled ≡ vec_capacity old.settled

-- ---- what a step reports

-- the keys of those that were settled
abbrev pub keys_settled : List Settled → List Key
keys_settled settles = map (λ x. x.key) settles

-- the answer that is said of a step, with the reply that the session of a key has in the state after it
abbrev pub Says : State → Said → Answer → Type 0
Says s (said.Welcome epoch client incarnation version) a = a ≡ answer.Welcome epoch client incarnation version
Says s (said.Told key) a =
    (session : ClientState) × (client_at s key.client ≡ Some session)
    × (a ≡ answer_told key (told_again session.request))
Says s (said.Refused refusal) a = a ≡ answer.Refused refusal

-- one move of the state for a message at a moment, under limits: these entries were made, this is said, and
-- these keys were settled
pub record MovesBy (limits : StepLimits) (old new : Holdings) (moment : ℕ) (m : Message)
    (entries : List Entry) (told : Said) : Type 0
  where
    pub move : Move
    pub moves : StateNextAtUnder limits (state_in old) moment m move
    pub makes : entries ≡ move.entries
    pub says : Says (state_in new) told move.answer
    pub settles : new.settled.items ≡ old.settled.items ++ keys_settled move.settles
    pub after : state_in new ≡ move.after

-- a message was heard: this is said, and this entry was made if there is one
abbrev pub WasHeard : StepLimits → Holdings → Holdings → ℕ → Message → Said → Option Entry → Type 0
WasHeard limits old new moment m told made = MovesBy limits old new moment m (option_to_list made) told

-- a message was refused, and made no entry
abbrev pub WasRefused : StepLimits → Holdings → Holdings → ℕ → Message → Refusal → Type 0
WasRefused limits old new moment m refusal = MovesBy limits old new moment m [] (said.Refused refusal)
