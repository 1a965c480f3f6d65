-- One event of a hub: its effects, in their order.
use Rattle.std.specs.Prelude.{ℕ, ◌≡◌, ◌≤◌, ◌<◌, ◌⊎◌, Bool, false, true, List, [], ◌∷◌, ◌++◌, None}
use Rattle.std.specs.Prelude.{Option, Some, cond, suc}
use Rattle.std.specs.Prelude.{flat_map, length, nat_eq, option_to_list, slice_get, take}
use Rattle.rv_text.specs.declared.message.Key.{Key}
use Rattle.rv_account.specs.declared.entry.Entry.{Entry}
use Rattle.rv_server_connections.specs.connection.Traffic.{IsBad, IsWholeFrame, Traffic, held_count}
use Rattle.rv_server_connections.specs.connection.Traffic.{most_held}
use Rattle.rv_hub.specs.dispatcher.View.{DispatcherState, DispatcherTerms, begun, moment_now}
use Rattle.rv_hub.specs.dispatcher.Effects.{Effect, DoesAll, bytes_in, entries_of_effect, told_in_effects}
use Rattle.rv_hub.specs.dispatcher.Effects.{Closed, Elapsed, EndedInput, Left, Opened, Wrote}
use Rattle.rv_hub.specs.dispatcher.Order.{IsStride, IsTurn, TellsOverdue, left_behind}
use Rattle.rv_hub.specs.dispatcher.Rest.{HasComeToStop, SubscribersInTime, SubscribersOwe, SubscribersWait}
use Rattle.rv_hub.specs.dispatcher.Rest.{OwersHear, TakesNoMore}
use Rattle.rv_hub.specs.declared.events.EventRefusal.{EventRefusal}
use Rattle.rv_hub.specs.declared.events.EventRefusal.TheVariants as refused
use Rattle.rv_hub.specs.declared.events.HubEvent.{HubEvent}
use Rattle.rv_hub.specs.declared.events.HubEvent.TheVariants as event
use Rattle.rv_hub.specs.Events.{EventCan, EventCannotBe}

-- a connection, and what is left of the piece that came from it
pub record Offered : Type 0 where
  pub connection : ℕ
  pub piece : List ℕ

-- what is offered to a connection's turn: the piece, if it came from that connection
abbrev pub offered_to : Offered → ℕ → List ℕ
offered_to offer connection = cond (nat_eq offer.connection connection) offer.piece []

-- and what is offered to it after effects that took bytes of the piece
abbrev pub offered_behind : Offered → List Effect → ℕ → List ℕ
offered_behind offer effects connection =
    cond (nat_eq offer.connection connection) (left_behind offer.piece effects) []

-- a connection goes on until it stops: after its turn nothing is to be answered now, and if bytes of its
-- piece are left, it takes no more
pub record IsWholeTurn (terms : DispatcherTerms) (old : DispatcherState) (connection : ℕ) (piece : List ℕ)
    (effects : List Effect) (count : ℕ) (new : DispatcherState) : Type 0
  where
    pub turn : IsTurn terms old connection piece effects count new
    pub stopped : HasComeToStop new connection
    pub takes_no_more : count < length piece → TakesNoMore new connection

-- the effects of events, or of turns, in one list
abbrev pub all_effects : List (List Effect) → List Effect
all_effects turns = flat_map (λ effects. effects) turns

-- the turn at a place, after the effects of those before it: it belongs to the connection at that place of
-- the row, after which come those that were told so far, in the order in which they were told
pub record HasTurn (terms : DispatcherTerms) (states : ℕ → DispatcherState) (offer : Offered) (row : List ℕ)
    (before effects : List Effect) (place : ℕ) : Type 0
  where
    pub connection : ℕ
    pub is_next : slice_get (row ++ told_in_effects before) place ≡ Some connection
    pub turn : IsWholeTurn terms (states place) connection (offered_behind offer before connection) effects
        (length (bytes_in effects)) (states (suc place))

-- turns of connections, first of this row and then of those that were told, one turn each, in the order in
-- which they were told. So many bytes of the piece are taken
pub record RunsTurns (terms : DispatcherTerms) (old : DispatcherState) (offer : Offered) (row : List ℕ)
    (turns : List (List Effect)) (count : ℕ) (new : DispatcherState) : Type 0
  where
    -- the states before each turn, and after the last
    pub states : ℕ → DispatcherState
    pub begins : states 0 ≡ old
    pub ends : states (length turns) ≡ new
    pub each : (place : ℕ) (effects : List Effect) → slice_get turns place ≡ Some effects
        → HasTurn terms states offer row (all_effects (take place turns)) effects place
    pub all : length turns ≡ length (row ++ told_in_effects (all_effects turns))
    pub count_is : count ≡ length (bytes_in (all_effects turns))

-- the entries that turns made, in order
abbrev pub made_by : List (List Effect) → List Entry
made_by turns = flat_map (λ effects. flat_map entries_of_effect effects) turns

-- what an event offers: a piece that came, or else nothing
abbrev pub offer_in : HubEvent → Offered
offer_in event.Opened = record { connection = 0; piece = [] }
offer_in (event.Came connection piece) = record { connection = connection; piece = piece.now }
offer_in (event.Ended connection) = record { connection = 0; piece = [] }
offer_in (event.Gone connection) = record { connection = 0; piece = [] }
offer_in (event.Took connection count) = record { connection = 0; piece = [] }
offer_in (event.Written entries) = record { connection = 0; piece = [] }
offer_in event.Passed = record { connection = 0; piece = [] }

-- what the event itself does, before time goes on; a connection that is opened has this number
abbrev pub own_effects : HubEvent → ℕ → List Effect
own_effects event.Opened number = Opened number ∷ []
own_effects (event.Came connection piece) number = []
own_effects (event.Ended connection) number = EndedInput connection ∷ []
own_effects (event.Gone connection) number = Closed connection ∷ []
own_effects (event.Took connection count) number = Left connection count ∷ []
own_effects (event.Written entries) number = Wrote entries ∷ []
own_effects event.Passed number = []

-- the connection that goes on after time, before those that were freed
abbrev pub goes_on_first : HubEvent → Option ℕ
goes_on_first event.Opened = None
goes_on_first (event.Came connection piece) = Some connection
goes_on_first (event.Ended connection) = Some connection
goes_on_first (event.Gone connection) = None
goes_on_first (event.Took connection count) = Some connection
goes_on_first (event.Written entries) = None
goes_on_first event.Passed = None

-- what the event gives: the number of a connection that was opened, else how many bytes were taken
abbrev pub EventGives : HubEvent → ℕ → ℕ → ℕ → Type 0
EventGives event.Opened number taken result = result ≡ number
EventGives what number taken result = result ≡ taken

-- without a journal all entries are written
abbrev pub last_effects : Bool → DispatcherState → List Effect
last_effects true s = []
last_effects false s = Wrote s.book.length ∷ []

-- time goes on to a moment, and those whose requests that ends are told; those that have waited as long as
-- they may are told; then the event's connection goes on until it stops, and then those that were freed, in
-- the order in which they were told. So many bytes of the event's piece are taken
pub record EventGoesOn (terms : DispatcherTerms) (old : DispatcherState) (handed : ℕ) (what : HubEvent)
    (made : List Entry) (taken : ℕ) (new : DispatcherState) : Type 0
  where
    pub entries : List Entry
    pub settled : List Key
    pub ended : List Effect
    pub after_time : DispatcherState
    pub time : IsStride terms old (Elapsed (moment_now old.now handed) entries settled) ended after_time
    pub overdue : List Effect
    pub after_overdue : DispatcherState
    pub tells : TellsOverdue terms after_time overdue after_overdue
    pub turns : List (List Effect)
    pub runs : RunsTurns terms after_overdue (offer_in what)
        (option_to_list (goes_on_first what) ++ (told_in_effects ended ++ told_in_effects overdue)) turns
        taken
        new
    pub made_is : made ≡ entries ++ made_by turns

-- the whole event: no connection has changed yet; then come its own effect and all that goes on after it, and
-- without a journal all is written
pub record TakesEvent (journal : Bool) (terms : DispatcherTerms) (old : DispatcherState) (handed : ℕ) (what :
    HubEvent)
    (made : List Entry) (result : ℕ) (new : DispatcherState) : Type 0
  where
    pub can : EventCan old what
    pub number : ℕ
    pub after_own : DispatcherState
    pub own : DoesAll terms (begun old) (own_effects what number) after_own
    pub taken : ℕ
    pub after_turns : DispatcherState
    pub goes_on : EventGoesOn terms after_own handed what made taken after_turns
    pub last : DoesAll terms after_turns (last_effects journal after_turns) new
    pub gives : EventGives what number taken result

-- why an event isn't taken: it can't be, or memory for a connection was refused
abbrev pub EventRefused : DispatcherState → HubEvent → EventRefusal → Type 0
EventRefused s what why = EventCannotBe s what why ⊎ ((what ≡ event.Opened) × (why ≡ refused.NoMemory))

-- a connection takes no more bytes: a whole frame is unread while it waits or is full, or the length is bad
abbrev pub CanTakeNone : Traffic → Type 0
CanTakeNone wire =
    (IsWholeFrame wire.unread × ((wire.owes ≡ true) ⊎ (most_held < held_count wire))) ⊎ IsBad wire.unread

-- fewer bytes than came are taken only if, after the event, the connection takes no more or is closed
abbrev pub TakesPiece : HubEvent → ℕ → DispatcherState → Type 0
TakesPiece (event.Came connection piece) count new = count < length piece.now
    → (wire : Traffic) → new.open_wires.wires connection ≡ Some wire → CanTakeNone wire
TakesPiece what count new = Unit {0}

-- what holds after each event
pub record IsAtRest (journal : Bool) (s : DispatcherState) : Type 0 where
  -- no whole frame is to be answered now, and each open connection still has something to do
  pub stopped : (connection : ℕ) → HasComeToStop s connection
  -- each connection that waits owes an answer, waits for a request that waits, and no longer than it may;
  -- each that owes one waits
  pub subscribers_owe : SubscribersOwe s
  pub owers_hear : OwersHear s
  pub waits : SubscribersWait s
  pub in_time : SubscribersInTime s
  -- no more entries are written than were made, and without a journal all are
  pub written : s.open_wires.written ≤ s.book.length
  pub all_written : journal ≡ false → s.open_wires.written ≡ s.book.length
