-- One step of a state, under any limits and under a book's: the rules of a step of an account in their order,
-- each asked of the state alone.
use Rattle.std.specs.Prelude.{◌≡◌, ◌≢◌, ◌⊎◌, ◌<◌, ◌≤◌, ◌+◌, ℕ, max, List, [], ◌∷◌, ◌++◌, length}
use Rattle.std.specs.Prelude.{Option, Some, None}
use Rattle.std.specs.FinMap.{len}
use Rattle.rv_text.specs.declared.version.Version.{Version}
use Rattle.rv_text.specs.declared.message.Key.{Key}
use Rattle.rv_text.specs.declared.call.Call.{Call}
use Rattle.rv_text.specs.declared.message.Message.{Message}
use Rattle.rv_text.specs.declared.message.Message.TheVariants.{Hello, Request, Cancel}
use Rattle.rv_text.specs.declared.answer.Reply.{Reply}
use Rattle.rv_text.specs.declared.answer.Refusal.{Refusal}
use Rattle.rv_text.specs.declared.answer.Refusal.TheVariants.{OtherEpoch, NoSession, OldIncarnation}
use Rattle.rv_text.specs.declared.answer.Refusal.TheVariants.{OldNumber, OtherCall, Busy, Gap, ClientsFull}
use Rattle.rv_text.specs.declared.answer.Refusal.TheVariants.{EpochFull, NoMemory, OtherVersion}
use Rattle.rv_text.specs.declared.answer.Answer.{Answer}
use Rattle.rv_text.specs.declared.answer.Answer.TheVariants.{Welcome, Replied, Refused}
use Rattle.rv_text.specs.declared.answer.Answer.TheVariants as answer
use Rattle.rv_text.specs.declared.answer.Reply.TheVariants.{Cancelled}
use Rattle.rv_account.specs.declared.entry.Entry.{Entry}
use Rattle.rv_account.specs.declared.entry.Act.{Act}
use Rattle.rv_account.specs.declared.entry.Act.TheVariants as act
use Rattle.rv_account.specs.Account.{entry}
use Rattle.rv_account.specs.Calls.{Stays, need_of}
use Rattle.rv_account.specs.rules.StepLimits.{StepLimits, book_limits}
use Rattle.rv_account.specs.rules.Steps.{RefuseOr, WhereElse, capped_moment}
use Rattle.rv_account.specs.state.State.{OpenPlace, LastRequest, ClientState, State, client_at}
use Rattle.rv_account.specs.state.State.{opposites, place_waiting, waiting_count}
use Rattle.rv_session.specs.declared.client.LastRequest.TheVariants.{Fresh, Waits, RepliedTo, CancelledUnseen}
use Rattle.rv_account.specs.state.After.{Following, Settled, due_at, following}
use Rattle.rv_account.specs.state.Follows.{IsNewIncarnation, NumberWaits, partners_of}

-- ---- when each refusal is due

abbrev pub EpochDiffers : State → Key → Refusal → Type 0
EpochDiffers s key refusal = (key.epoch ≢ s.epoch) × (refusal ≡ OtherEpoch s.epoch)

abbrev pub SessionLacks : State → Key → Refusal → Type 0
SessionLacks s key refusal = IsNewIncarnation s key.client key.incarnation × (refusal ≡ NoSession)

-- the client's session has a greater incarnation
pub record IncarnationOld (s : State) (client incarnation : ℕ) (refusal : Refusal) : Type 0 where
  pub session : ClientState
  pub there : client_at s client ≡ Some session
  pub lower : incarnation < session.incarnation
  pub is : refusal ≡ OldIncarnation session.incarnation

-- the session has this incarnation, and another version
pub record VersionDiffers (s : State) (client incarnation : ℕ) (version : Version) (refusal : Refusal) :
    Type 0 where
  pub session : ClientState
  pub there : client_at s client ≡ Some session
  pub same : session.incarnation ≡ incarnation
  pub other : session.version ≢ version
  pub is : refusal ≡ OtherVersion session.version

-- the number is below the session's last; 0, which no request has, counts as below
pub record NumberOld (s : State) (key : Key) (refusal : Refusal) : Type 0 where
  pub session : ClientState
  pub there : client_at s key.client ≡ Some session
  pub old : (key.number < session.last) ⊎ (key.number ≡ 0)
  pub is : refusal ≡ OldNumber session.last

-- the call of a request, if it came
abbrev pub call_asked : LastRequest → Option Call
call_asked Fresh = None
call_asked (Waits place call) = Some call
call_asked (RepliedTo call reply) = Some call
call_asked CancelledUnseen = None

-- the session's last request came, with another call
pub record CallDiffers (s : State) (key : Key) (call : Call) (refusal : Refusal) : Type 0 where
  pub session : ClientState
  pub there : client_at s key.client ≡ Some session
  pub came : Call
  pub with_call : call_asked session.request ≡ Some came
  pub other : came ≢ call
  pub is : refusal ≡ OtherCall

-- the session's last request waits
pub record SessionBusy (s : State) (key : Key) (refusal : Refusal) : Type 0 where
  pub session : ClientState
  pub there : client_at s key.client ≡ Some session
  pub place : ℕ
  pub waits : place_waiting session.request ≡ Some place
  pub is : refusal ≡ Busy session.last

-- the number is above the last plus one
pub record NumberAbove (s : State) (key : Key) (refusal : Refusal) : Type 0 where
  pub session : ClientState
  pub there : client_at s key.client ≡ Some session
  pub above : session.last + 1 < key.number
  pub is : refusal ≡ Gap session.last

-- the client is new, and there are as many as there may be
pub record NoClientMoreUnder (limits : StepLimits) (s : State) (client : ℕ) (refusal : Refusal) : Type 0 where
  pub is_new : client_at s client ≡ None
  pub full : limits.clients ≤ len s.clients
  pub is : refusal ≡ ClientsFull

-- the entries, those that the waiting requests may come to need and those that are needed now are too many
pub record NoEntryMoreUnder (limits : StepLimits) (s : State) (need : ℕ) (refusal : Refusal) : Type 0 where
  pub full : limits.entries < s.length + waiting_count s + need
  pub is : refusal ≡ EpochFull

-- an arrival with this call would stay, with nobody there to meet, and as many places are open as may be
pub record NoPlaceMore (most : ℕ) (s : State) (call : Call) (refusal : Refusal) : Type 0 where
  pub stays : Stays call
  pub alone : opposites s call ≡ []
  pub full : most ≤ length s.open_places
  pub is : refusal ≡ EpochFull

-- under a book's limits
abbrev pub NoClientMore : State → ℕ → Refusal → Type 0
NoClientMore = NoClientMoreUnder book_limits

abbrev pub NoEntryMore : State → ℕ → Refusal → Type 0
NoEntryMore = NoEntryMoreUnder book_limits

-- ---- the lines of a step, of which the first that applies decides

-- the key's number is its session's last
pub record NumberIsLast (s : State) (key : Key) : Type 0 where
  pub session : ClientState
  pub there : client_at s key.client ≡ Some session
  pub last : key.number ≡ session.last

-- the lines for a key, by what a refusal does, what happens at the last number and what at one above it
abbrev pub StateKeyLines : State → Key → (Refusal → Type 0) → Type 0 → Type 0 → Type 0
StateKeyLines s key refuses at_last above =
    RefuseOr (EpochDiffers s key) refuses
    (RefuseOr (SessionLacks s key) refuses
    (RefuseOr (IncarnationOld s key.client key.incarnation) refuses
    (RefuseOr (NumberOld s key) refuses
    (WhereElse (NumberIsLast s key) at_last
    (RefuseOr (SessionBusy s key) refuses
    (RefuseOr (NumberAbove s key) refuses
    above))))))

-- the line of a bound on open places, where there is one
abbrev pub StatePlaceLine : Option ℕ → State → Call → (Refusal → Type 0) → Type 0 → Type 0
StatePlaceLine None s call refuses enters = enters
StatePlaceLine (Some most) s call refuses enters = RefuseOr (NoPlaceMore most s call) refuses enters

-- the lines for a request: also what happens where it is a repeat
abbrev pub StateRequestLinesUnder : StepLimits → State → Key → Call → (Refusal → Type 0) → Type 0 → Type 0
    → Type 0
StateRequestLinesUnder limits s key call refuses repeats enters =
    StateKeyLines s key refuses
    (RefuseOr (CallDiffers s key call) refuses
    repeats)
    (RefuseOr (NoEntryMoreUnder limits s (need_of call)) refuses
    (StatePlaceLine limits.open_places s call refuses
    enters))

-- the lines for a cancel: also what happens where its request waits, and where the last number has a reply
abbrev pub StateCancelLinesUnder : StepLimits → State → Key → (Refusal → Type 0) → Type 0 → Type 0 → Type 0
    → Type 0
StateCancelLinesUnder limits s key refuses ends repeats enters =
    StateKeyLines s key refuses
    (WhereElse (NumberWaits s key) ends
    repeats)
    (RefuseOr (NoEntryMoreUnder limits s 1) refuses
    enters)

-- the client has a session of this incarnation
pub record HasSessionOf (s : State) (client incarnation : ℕ) : Type 0 where
  pub session : ClientState
  pub there : client_at s client ≡ Some session
  pub same : session.incarnation ≡ incarnation

-- the lines for a hello: also what happens where it is a repeat
abbrev pub StateHelloLinesUnder : StepLimits → State → ℕ → ℕ → Version → (Refusal → Type 0) → Type 0 → Type 0
    → Type 0
StateHelloLinesUnder limits s client incarnation version refuses repeats enters =
    RefuseOr (IncarnationOld s client incarnation) refuses
    (RefuseOr (VersionDiffers s client incarnation version) refuses
    (WhereElse (HasSessionOf s client incarnation) repeats
    (RefuseOr (NoClientMoreUnder limits s client) refuses
    (RefuseOr (NoEntryMoreUnder limits s 1) refuses
    enters))))

-- the lines under a book's limits
abbrev pub StateRequestLines : State → Key → Call → (Refusal → Type 0) → Type 0 → Type 0 → Type 0
StateRequestLines = StateRequestLinesUnder book_limits

abbrev pub StateCancelLines : State → Key → (Refusal → Type 0) → Type 0 → Type 0 → Type 0 → Type 0
StateCancelLines = StateCancelLinesUnder book_limits

abbrev pub StateHelloLines : State → ℕ → ℕ → Version → (Refusal → Type 0) → Type 0 → Type 0 → Type 0
StateHelloLines = StateHelloLinesUnder book_limits

-- ---- what a step makes

-- the entries that a step makes; its answer; the requests that it settles: those of its tick first, by limit
-- and then place, then those of its message's entry, by place; and the state after
pub record Move : Type 0 where
  pub entries : List Entry
  pub answer : Answer
  pub settles : List Settled
  pub after : State

-- no entry, and this answer
abbrev pub staying : State → Answer → Move
staying s said = record { entries = []; answer = said; settles = []; after = s }

abbrev pub RefusesMove : State → Move → Refusal → Type 0
RefusesMove s move refusal = move ≡ staying s (Refused refusal)

-- one entry, of this moment and act, and this answer
abbrev pub entering : State → ℕ → Act → Answer → Move
entering s moment does said =
    let made : Following = following s moment does in
    record {
      entries = entry moment does (partners_of s does) ∷ [];
      answer = said;
      settles = made.settles;
      after = made.after;
    }

-- the answer to a request with this key: its reply, or that it waits
abbrev pub answer_told : Key → Option Reply → Answer
answer_told key None = answer.Waiting key
answer_told key (Some reply) = Replied key reply

-- the reply of a session's last request, if it has one. It is never asked of a session with no request yet,
-- since number 0 is old
abbrev pub told_again : LastRequest → Option Reply
told_again Fresh = None
told_again (Waits place call) = None
told_again (RepliedTo call reply) = Some reply
told_again CancelledUnseen = Some Cancelled

-- no entry, and the answer to a repeat of the session's last request: its reply, or that it waits
pub record RepeatsMove (s : State) (key : Key) (move : Move) : Type 0 where
  pub session : ClientState
  pub there : client_at s key.client ≡ Some session
  pub is : move ≡ staying s (answer_told key (told_again session.request))

-- no entry where a growth was refused, else the message's own
abbrev pub EntersMove : State → ℕ → Act → Move → Answer → Type 0
EntersMove s moment does move said =
    RefusesMove s move NoMemory ⊎ (move ≡ entering s moment does said)

-- the answer to a request or a cancel of this key that enters by this act
abbrev pub answer_after : State → ℕ → Key → Act → Answer
answer_after s moment key does = answer_told key (following s moment does).reply

-- the move of a message at a moment
abbrev pub StateNextAtUnder : StepLimits → State → ℕ → Message → Move → Type 0
StateNextAtUnder limits s moment (Hello client incarnation version) move =
    StateHelloLinesUnder limits s client incarnation version (RefusesMove s move)
    (move ≡ staying s (Welcome s.epoch client incarnation version))
    (EntersMove s moment (act.Hello client incarnation version) move
    (Welcome s.epoch client incarnation version))
StateNextAtUnder limits s moment (Request key call) move =
    StateRequestLinesUnder limits s key call (RefusesMove s move)
    (RepeatsMove s key move)
    (EntersMove s moment (act.Arrive key call) move (answer_after s moment key (act.Arrive key call)))
StateNextAtUnder limits s moment (Cancel key) move =
    StateCancelLinesUnder limits s key (RefusesMove s move)
    (move ≡ entering s moment (act.Cancel key) (Replied key Cancelled))
    (RepeatsMove s key move)
    (EntersMove s moment (act.Cancel key) move (answer_after s moment key (act.Cancel key)))

-- a lower moment counts as the state's own
abbrev pub state_moment : State → ℕ → ℕ
state_moment s now = max s.moment (capped_moment now)

-- the time-outs of a step: their entry, the requests that they settle, and the state after them
pub record Ticked : Type 0 where
  pub entries : List Entry
  pub settles : List Settled
  pub after : State

abbrev pub unticked : State → Ticked
unticked s = record { entries = []; settles = []; after = s }

-- one tick ends all that is due
abbrev pub ticking : State → ℕ → Ticked
ticking s moment =
    let made : Following = following s moment act.Tick in
    record { entries = entry moment act.Tick [] ∷ []; settles = made.settles; after = made.after }

abbrev pub ticked_if : State → ℕ → List OpenPlace → Ticked
ticked_if s moment [] = unticked s
ticked_if s moment (due ∷ others) = ticking s moment

abbrev pub ticked_at : State → ℕ → Ticked
ticked_at s moment = ticked_if s moment (due_at s moment)

-- one step of a state: the moment that is handed in, the message, and what it makes
pub record StateNextUnder (limits : StepLimits) (s : State) (now : ℕ) (m : Message) (move : Move) : Type 0
  where
    pub then : Move
    pub steps : StateNextAtUnder limits (ticked_at s (state_moment s now)).after (state_moment s now) m then
    pub entries : move.entries ≡ (ticked_at s (state_moment s now)).entries ++ then.entries
    pub answer : move.answer ≡ then.answer
    pub settles : move.settles ≡ (ticked_at s (state_moment s now)).settles ++ then.settles
    pub after : move.after ≡ then.after

-- ---- a step under a book's limits

abbrev pub StateNextAt : State → ℕ → Message → Move → Type 0
StateNextAt = StateNextAtUnder book_limits

abbrev pub StateNext : State → ℕ → Message → Move → Type 0
StateNext = StateNextUnder book_limits
