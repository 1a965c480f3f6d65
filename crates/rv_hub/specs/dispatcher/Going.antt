-- What the calls on a dispatcher leave: their effects, the entries that these made, and the connections free
-- to go on.
use Rattle.std.specs.Prelude.{ℕ, ◌≡◌, ◌+◌, ◌<◌, ◌≤◌, ◌⊎◌, List, [], ◌∷◌, ◌++◌, All, Option, Some, slice_get}
use Rattle.std.specs.Prelude.{AllPairs, Contains}
use Rattle.std.specs.Prelude.{Result, flat_map, length, take, true, vec_capacity}
use Rattle.rv_json.specs.Bodies.{HasBodyLength}
use Rattle.rv_text.specs.declared.message.Key.{Key}
use Rattle.rv_text.specs.declared.message.Message.{Message}
use Rattle.rv_text.specs.declared.answer.Answer.{Answer}
use Rattle.rv_text.specs.declared.answer.Answer.TheVariants as answer
use Rattle.rv_text.specs.declared.answer.Refusal.TheVariants.{BadText, NoMemory}
use Rattle.rv_text.specs.Bodies.{Decodes, IsMessageBody, answer_text}
use Rattle.rv_json.specs.declared.fault.TextFault.{TextFault}
use Rattle.rv_json.specs.declared.fault.TextFault.TheVariants as fault
use Rattle.rv_text.specs.Limits.{FitsAnswer}
use Rattle.rv_account.specs.declared.entry.Entry.{Entry}
use Rattle.rv_account.specs.state.Moves.{Move, StateNextAtUnder, ticked_at}
use Rattle.rv_account.specs.state.After.{due_at}
use Rattle.rv_account.specs.state.State.{State}
use Rattle.rv_machine.specs.declared.machine.Said.{Said}
use Rattle.rv_machine.specs.Machines.{Says, keys_settled, state_in}
use Rattle.rv_account.specs.state.resume.Resuming.{CanResume}
use Rattle.rv_server_connections.specs.connection.Traffic.{IsDue, IsFinished, Traffic}
use Rattle.rv_server_connections.specs.connection.Steps.{AnswersBy}
use Rattle.rv_server_connections.specs.declared.subscribers.tables.Subscription.{Subscription}
use Rattle.rv_server_connections.specs.subscribers.Subscription.{SubscribesTo, WhoHears}
use Rattle.rv_server_connections.specs.subscribers.Subscribers.{subscribers_count}
use Rattle.rv_server_connections.specs.Connections.{ChangesWire, HasWire, Notes, count_at, unread_count}
use Rattle.rv_server_connections.specs.Wires.{tally_in, wires_in}
use Rattle.rv_server_connections.specs.declared.wires.Wires.{Wires}
use Rattle.rv_hub.specs.declared.dispatcher.Dispatcher.{Dispatcher}
use Rattle.rv_hub.specs.declared.dispatcher.asking.TurnStep.{TurnStep}
use Rattle.rv_hub.specs.declared.dispatcher.asking.TurnStep.TheVariants as step
use Rattle.rv_hub.specs.dispatcher.Rest.{HasComeToStop}
use Rattle.rv_hub.specs.dispatcher.View.{DispatcherState, DispatcherTerms}
use Rattle.rv_hub.specs.dispatcher.Telling.{IsTellable, IsToldAgain, WaitsOn}
use Rattle.rv_hub.specs.dispatcher.View.{moment_now}
use Rattle.rv_hub.specs.dispatcher.Fields.{dispatcher_state, dispatcher_terms}
use Rattle.rv_hub.specs.dispatcher.Effects.{AnswersNow, AnswersOrWaits, Effect, Does, DoesAll, DoesClose}
use Rattle.rv_hub.specs.dispatcher.Effects.{IsDueWith, Elapsed, WaitsNow, bytes_in, entries_of_effect}
use Rattle.rv_hub.specs.dispatcher.Effects.{rests_on, told_in_effects}
use Rattle.rv_hub.specs.dispatcher.Order.{IsOwnEffect, IsStride, MayDo, RunsStrides, TellsEach, TellsKeys}
use Rattle.rv_hub.specs.dispatcher.Order.{TellsOneSubscriber, TellsOverdue, IsTurn, effects_of}

-- how many bytes of a connection are unread, if it is open
abbrev pub unread_of : Option Traffic → ℕ
unread_of = count_at unread_count

-- and over all connections
abbrev pub unread_total : Wires → ℕ
unread_total all = (tally_in all).unread

-- one connection changed: it is listed, and the sum counts its unread bytes
abbrev pub NotesOne : Wires → ℕ → Wires → Type 0
NotesOne old connection new = Notes (wires_in old) (tally_in old) connection (wires_in new) (tally_in new)

-- the work that is left: unread bytes, connections that wait, and connections that are free to go on
abbrev pub work_left : Dispatcher → ℕ
work_left d = unread_total d.wires + subscribers_count d.subscribers + length d.freed.items

-- how many bytes are unread on a connection
abbrev pub unread_at : Dispatcher → ℕ → ℕ
unread_at d connection = unread_of ((wires_in d.wires).wires connection)

-- what changes besides the effects
pub record Goes (old : Dispatcher) (effects : List Effect) (new : Dispatcher) : Type 0 where
  pub made : new.entries.items ≡ old.entries.items ++ flat_map entries_of_effect effects
  pub freed : new.freed.items ≡ old.freed.items ++ told_in_effects effects
  pub terms : dispatcher_terms new ≡ dispatcher_terms old

-- ---- telling

-- nothing that contracts see changed
pub record IsSameDispatcher (old new : Dispatcher) : Type 0 where
  pub wires : wires_in new.wires ≡ wires_in old.wires
  pub tally : tally_in new.wires ≡ tally_in old.wires
  pub freed : new.freed.items ≡ old.freed.items
  pub rest : new ≡ record old { wires = new.wires; freed = new.freed }

-- the text is what the key's request is told
pub record IsToldText (s : State) (key : Key) (text : List ℕ) : Type 0 where
  pub said : Answer
  pub told : IsToldAgain s key said
  pub text_is : text ≡ answer_text said
  pub fits : HasBodyLength text

-- the connection owes an answer, and the request can be told
pub record MayGive (d : Dispatcher) (connection : ℕ) (key : Key) : Type 0 where
  pub owes : HasWire (wires_in d.wires) connection (λ wire. wire.owes ≡ true)
  pub tellable : IsTellable (state_in d.machine) key
  pub resumes : CanResume (state_in d.machine)

-- the connection was given what the request is told, and is free to go on
pub record GivesTold (old : Dispatcher) (connection : ℕ) (key : Key) (new : Dispatcher) : Type 0 where
  pub said : Answer
  pub told : IsToldAgain (state_in old.machine) key said
  pub answers : ChangesWire (wires_in old.wires) connection
      (λ wire after. AnswersBy (wires_in old.wires).written wire (state_in old.machine).length
      (answer_text said) after)
      (wires_in new.wires)
  pub noted : NotesOne old.wires connection new.wires
  pub freed : new.freed.items ≡ old.freed.items ++ connection ∷ []
  pub rest : new ≡ record old { wires = new.wires; freed = new.freed }

-- connections that waited were told: the machine and the entries stay, and no more work is left than before
pub record GoesTelling (old : Dispatcher) (effects : List Effect) (new : Dispatcher) : Type 0 where
  pub rest : new ≡ record old { wires = new.wires; subscribers = new.subscribers; freed = new.freed }
  pub freed : new.freed.items ≡ old.freed.items ++ told_in_effects effects
  pub work : work_left new ≤ work_left old

-- one that waited was told, or closed
pub record TellsIt (old : Dispatcher) (connection : ℕ) (new : Dispatcher) : Type 0 where
  pub effect : Effect
  pub tells : TellsOneSubscriber connection effect
  pub does : Does (dispatcher_terms old) (dispatcher_state old) effect (dispatcher_state new)
  pub fewer : subscribers_count new.subscribers < subscribers_count old.subscribers
  pub goes : GoesTelling old (effect ∷ []) new

-- the connections that wait for a request of the client, by their numbers
pub record AreSubscribersOfClient (who : WhoHears) (client : ℕ) (row : List ℕ) : Type 0 where
  pub rise : AllPairs (λ one other. one < other) row
  pub hear : All (SubscribesTo who client) row
  pub all : (connection : ℕ) → SubscribesTo who client connection → Contains row connection

-- each of them was told
pub record TellsClient (terms : DispatcherTerms) (old : DispatcherState) (client : ℕ) (effects : List Effect)
    (new : DispatcherState) :
    Type 0
  where
    pub row : List ℕ
    pub subscribers : AreSubscribersOfClient old.hears client row
    pub each : TellsEach row effects
    pub does : DoesAll terms old effects new

pub record TellsIts (old : Dispatcher) (client : ℕ) (new : Dispatcher) : Type 0 where
  pub effects : List Effect
  pub tells : TellsClient (dispatcher_terms old) (dispatcher_state old) client effects (dispatcher_state new)
  pub goes : GoesTelling old effects new

pub record TellsThem (old : Dispatcher) (keys : List Key) (new : Dispatcher) : Type 0 where
  pub effects : List Effect
  pub tells : TellsKeys (dispatcher_terms old) (dispatcher_state old) keys effects (dispatcher_state new)
  pub goes : GoesTelling old effects new

pub record TellsLate (old : Dispatcher) (new : Dispatcher) : Type 0 where
  pub effects : List Effect
  pub tells : TellsOverdue (dispatcher_terms old) (dispatcher_state old) effects (dispatcher_state new)
  pub goes : GoesTelling old effects new

-- the connection has waited as long as it may, and is the first that has
pub record IsNextOverdue (s : DispatcherState) (connection : ℕ) : Type 0 where
  pub subscription : Subscription
  pub there : s.hears connection ≡ Some subscription
  pub overdue : subscription.until ≤ s.now
  pub first : (other : ℕ) (its : Subscription) → s.hears other ≡ Some its
      → (subscription.until < its.until) ⊎ ((subscription.until ≡ its.until) × (connection ≤ other))

-- ---- asking

-- nothing changed but the room for texts
pub record IsSameButRoom (old new : Dispatcher) : Type 0 where
  pub wires : wires_in new.wires ≡ wires_in old.wires
  pub tally : tally_in new.wires ≡ tally_in old.wires
  pub rest : new ≡ record old { wires = new.wires }

-- the frame of some body is due on the connection
pub record IsFrameDue (d : Dispatcher) (connection : ℕ) (body : List ℕ) : Type 0 where
  pub frame : HasWire (wires_in d.wires) connection (λ wire. IsDueWith wire body)

abbrev pub HasDue : Dispatcher → ℕ → Type 0
HasDue d connection = HasWire (wires_in d.wires) connection IsDue

-- what the frame's body was read as
pub record IsMessageAt (d : Dispatcher) (connection : ℕ) (read : Result Message TextFault) : Type 0 where
  pub body : List ℕ
  pub asked : IsFrameDue d connection body
  pub reads : Decodes Message IsMessageBody body read

-- the text of the answer to a frame that wasn't read as a message
abbrev pub fault_answer : TextFault → List ℕ
fault_answer fault.NoMemory = answer_text (answer.Refused NoMemory)
fault_answer fault.NotJson = answer_text (answer.Refused BadText)
fault_answer fault.NotMessage = answer_text (answer.Refused BadText)

-- that frame was taken: nothing is unread on the connection, and less work is left
pub record TakesDueFrame (old : Dispatcher) (connection : ℕ) (new : Dispatcher) : Type 0 where
  pub rest : new ≡ record old { wires = new.wires; subscribers = new.subscribers }
  pub work : work_left new + 2 ≤ work_left old
  pub had : 3 ≤ unread_at old connection
  pub emptied : unread_at new connection ≡ 0

-- it was answered by a text, or its connection was closed
pub record AnswersIt (old : Dispatcher) (connection entries : ℕ) (text : List ℕ) (new : Dispatcher) :
    Type 0 where
  pub did : (body : List ℕ) → IsFrameDue old connection body
      → AnswersNow (dispatcher_state old) connection body entries text (dispatcher_state new)
      ⊎ DoesClose (dispatcher_state old) connection (dispatcher_state new)
  pub takes : TakesDueFrame old connection new

-- it was answered that memory was refused, or its connection was closed
abbrev pub LacksIt : Dispatcher → ℕ → Dispatcher → Type 0
LacksIt old connection new = AnswersIt old connection 0 (answer_text (answer.Refused NoMemory)) new

-- it was answered so, or that memory was refused, or its connection was closed
pub record SaysText (old : Dispatcher) (connection : ℕ) (said : Answer) (new : Dispatcher) : Type 0 where
  pub did : (body : List ℕ) → IsFrameDue old connection body
      → AnswersNow (dispatcher_state old) connection body (rests_on said (state_in old.machine).length)
      (answer_text said)
      (dispatcher_state new)
      ⊎ (AnswersNow (dispatcher_state old) connection body 0 (answer_text (answer.Refused NoMemory))
      (dispatcher_state new)
      ⊎ DoesClose (dispatcher_state old) connection (dispatcher_state new))
  pub takes : TakesDueFrame old connection new

-- its connection waits, or was closed
pub record WaitsIt (old : Dispatcher) (connection : ℕ) (key : Key) (new : Dispatcher) : Type 0 where
  pub did : (body : List ℕ) → IsFrameDue old connection body
      → WaitsNow old.patience (dispatcher_state old) connection body key (dispatcher_state new)
      ⊎ DoesClose (dispatcher_state old) connection (dispatcher_state new)
  pub takes : TakesDueFrame old connection new

-- it was answered as said, or left to wait; or memory for that was refused
abbrev pub SaysOrLacks : DispatcherTerms → DispatcherState → ℕ → List ℕ → Answer → DispatcherState → Type 0
SaysOrLacks terms old connection body said new =
    AnswersOrWaits terms old connection body said new
    ⊎ (AnswersNow old connection body 0 (answer_text (answer.Refused NoMemory)) new ⊎ DoesClose old connection
    new)

pub record SaysIt (old : Dispatcher) (connection : ℕ) (said : Answer) (new : Dispatcher) : Type 0 where
  pub did : (body : List ℕ) → IsFrameDue old connection body
      → SaysOrLacks (dispatcher_terms old) (dispatcher_state old) connection body said (dispatcher_state new)
  pub takes : TakesDueFrame old connection new

-- this can be said: it fits, and if it says that a request waits, the request does
pub record MaySay (d : Dispatcher) (said : Answer) : Type 0 where
  pub fits : FitsAnswer said
  pub waits : (key : Key) → said ≡ answer.Waiting key → WaitsOn (state_in d.machine) key

-- a step with a message was made: this is said of it, and each that waits still does or is listed as settled
pub record StepsIt (old : Dispatcher) (message : Message) (said : Said) (new : Dispatcher) : Type 0 where
  pub move : Move
  pub moves : StateNextAtUnder (dispatcher_terms old).limits (state_in old.machine) old.latest message move
  pub entries : new.entries.items ≡ old.entries.items ++ move.entries
  pub says : Says (state_in new.machine) said move.answer
  pub may_say : MaySay new move.answer
  pub settles : new.machine.settled.items ≡ keys_settled move.settles
  pub after : state_in new.machine ≡ move.after
  pub rest : new ≡ record old { machine = new.machine; entries = new.entries }

-- all that is due by the moment was ended; a moment lower than before counts as the one before
pub record ElapsesIt (old : Dispatcher) (handed : ℕ) (new : Dispatcher) : Type 0 where
  pub now : new.latest ≡ moment_now old.latest handed
  pub entries : new.entries.items ≡ (ticked_at (state_in old.machine) new.latest).entries
  pub settles : new.machine.settled.items ≡ keys_settled (ticked_at (state_in old.machine) new.latest).settles
  pub after : state_in new.machine ≡ (ticked_at (state_in old.machine) new.latest).after
  pub rest : new ≡ record old { machine = new.machine; latest = new.latest; entries = new.entries }

-- the key is one of these
abbrev pub IsAmongKeys : List Key → Key → Type 0
IsAmongKeys keys key = (i : ℕ) × (slice_get keys i ≡ Some key)

-- each connection that waits does so for a request that waits, or that is listed as settled
abbrev pub SubscribersWaitOr : List Key → DispatcherState → Type 0
SubscribersWaitOr settled s = (connection : ℕ) (subscription : Subscription)
    → s.hears connection ≡ Some subscription
    → WaitsOn s.book subscription.key ⊎ IsAmongKeys settled subscription.key

-- nothing is due, and each connection that waits does so for a request that waits, or that is listed as
-- settled
pub record StillGoes (old new : Dispatcher) : Type 0 where
  pub waits : SubscribersWaitOr new.machine.settled.items (dispatcher_state new)
  pub none_due : due_at (state_in new.machine) new.latest ≡ []
  pub room : vec_capacity old.entries ≤ vec_capacity new.entries

-- ---- going on

-- a frame was answered, and then all that it settled were told
pub record Strides (old : Dispatcher) (connection : ℕ) (new : Dispatcher) : Type 0 where
  pub effect : Effect
  pub tells : List Effect
  pub stride : IsStride (dispatcher_terms old) (dispatcher_state old) effect tells (dispatcher_state new)
  pub own : IsOwnEffect connection effect
  pub may : MayDo (dispatcher_state old) [] effect
  pub bytes : bytes_in (effect ∷ tells) ≡ []
  pub goes : Goes old (effect ∷ tells) new
  pub work : work_left new + 2 ≤ work_left old
  pub had : 3 ≤ unread_at old connection
  pub emptied : unread_at new connection ≡ 0

-- bytes of a piece were taken, or none if the connection is closed
pub record FeedsPiece (old : Dispatcher) (connection : ℕ) (piece : List ℕ) (count : ℕ) (new : Dispatcher) :
    Type 0 where
  pub strides : List (Effect × List Effect)
  pub own : All (λ s. IsOwnEffect connection s.0) strides
  pub runs : RunsStrides (dispatcher_terms old) (dispatcher_state old) piece strides (dispatcher_state new)
  pub goes : Goes old (effects_of strides) new
  pub within : count ≤ length piece
  pub bytes : bytes_in (effects_of strides) ≡ take count piece
  pub unread : unread_at new connection ≤ unread_at old connection + count
  pub work : work_left new ≤ work_left old + count

-- what is to be done next of a connection: the frame that is due is answered, by what it was read as; nothing
-- is left to do, and it is closed; or it stops
abbrev pub IsTurnStep : Dispatcher → ℕ → TurnStep → Type 0
IsTurnStep d connection (step.Answer read) = IsMessageAt d connection read
IsTurnStep d connection step.Close = HasWire (wires_in d.wires) connection IsFinished
IsTurnStep d connection step.Stop = HasComeToStop (dispatcher_state d) connection

-- nothing happened, or the connection was closed, since nothing was left to do
pub record Finishes (old : Dispatcher) (connection : ℕ) (new : Dispatcher) : Type 0 where
  pub did : (new ≡ old)
      ⊎ (HasWire (wires_in old.wires) connection IsFinished
      × DoesClose (dispatcher_state old) connection (dispatcher_state new))
  pub rest : new ≡ record old { wires = new.wires; subscribers = new.subscribers }
  pub work : work_left new ≤ work_left old

-- a connection went on until it stopped
pub record TakesItsTurn (old : Dispatcher) (connection : ℕ) (piece : List ℕ) (count : ℕ) (new : Dispatcher) :
    Type 0 where
  pub effects : List Effect
  pub turn : IsTurn (dispatcher_terms old) (dispatcher_state old) connection piece effects count
      (dispatcher_state new)
  pub goes : Goes old effects new
  pub work : work_left new ≤ work_left old + count

-- time went on: those whose requests that ended were told, and then those that have waited as long as they
-- may
pub record PassesIt (old : Dispatcher) (handed : ℕ) (new : Dispatcher) : Type 0 where
  pub entries : List Entry
  pub settled : List Key
  pub ended : List Effect
  pub between : DispatcherState
  pub time : IsStride (dispatcher_terms old) (dispatcher_state old) (Elapsed (moment_now old.latest handed)
      entries
      settled) ended
      between
  pub overdue : List Effect
  pub tells : TellsOverdue (dispatcher_terms old) between overdue (dispatcher_state new)
  pub goes : Goes old (Elapsed (moment_now old.latest handed) entries settled ∷ ended ++ overdue) new
