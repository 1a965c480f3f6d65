-- The single effects of a dispatcher: each is one change of what contracts see.
use Rattle.std.specs.Prelude.{ℕ, ◌≡◌, ◌+◌, ◌≤◌, ◌↔◌, ◌⊎◌, false, true, List, [], ◌∷◌, None, Option, Contains}
use Rattle.std.specs.Prelude.{Some, flat_map, length}
use Rattle.rv_text.specs.declared.message.Key.{Key}
use Rattle.rv_text.specs.declared.message.Message.{Message}
use Rattle.rv_text.specs.declared.answer.Answer.{Answer}
use Rattle.rv_text.specs.declared.answer.Answer.TheVariants as answer
use Rattle.rv_text.specs.declared.answer.Refusal.TheVariants.{BadText, NoMemory}
use Rattle.rv_text.specs.Bodies.{IsMessageBody, answer_text}
use Rattle.rv_account.specs.declared.entry.Entry.{Entry}
-- how many entries an answer to a step rests on
pub use Rattle.rv_account.specs.rules.Resting.{rests_on}
use Rattle.rv_account.specs.state.Moves.{Move, StateNextAtUnder, ticked_at}
use Rattle.rv_server_connections.specs.connection.Traffic.{IsDue, Traffic}
use Rattle.rv_server_connections.specs.connection.Steps.{AnswersBy, TakesIn, input_ended, left_by, taken}
use Rattle.rv_server_connections.specs.declared.subscribers.tables.Subscription.{Subscription}
use Rattle.rv_server_connections.specs.subscribers.Subscription.{SetsSubscription}
use Rattle.rv_machine.specs.Machines.{keys_settled}
use Rattle.rv_server_connections.specs.Connections.{ChangesWire, HasWire, IsReleased, ListsOne, OpensWire}
use Rattle.rv_server_connections.specs.Connections.{ReleasesAll, SetsWire}
use Rattle.rv_hub.specs.dispatcher.View.{ChangesBytes, DispatcherState, DispatcherTerms}
use Rattle.rv_hub.specs.dispatcher.Telling.{IsToldAgain}

-- a step of the book: its message, its entries, and the keys that it settled
pub record Stepped : Type 0 where
  pub message : Message
  pub entries : List Entry
  pub settled : List Key

pub data Effect : Type 0 where
  -- time went on to this moment, and these requests were ended
  Elapsed : (moment : ℕ) (entries : List Entry) (settled : List Key) → Effect
  -- a connection was opened
  Opened : (connection : ℕ) → Effect
  -- bytes of its input were taken
  TookIn : (connection : ℕ) (bytes : List ℕ) → Effect
  -- its input ended
  EndedInput : (connection : ℕ) → Effect
  -- so many bytes left
  Left : (connection count : ℕ) → Effect
  -- so many entries are written
  Wrote : (entries : ℕ) → Effect
  -- the frame of this body was taken: a step with its message was made, and this is its answer
  Asked : (connection : ℕ) (body : List ℕ) (step : Stepped) (said : Answer) → Effect
  -- the frame of this body was taken, and isn't a message's
  ReadNothing : (connection : ℕ) (body : List ℕ) → Effect
  -- memory was refused for it: no step was made, or one was made with its message and there was no room for
  -- the answer
  Lacked : (connection : ℕ) (body : List ℕ) (step : Option Stepped) → Effect
  -- a step with its message was made, and its connection closed, since memory for the answer was refused
  Lost : (connection : ℕ) (body : List ℕ) (step : Stepped) → Effect
  -- a connection that waited is told
  Told : (connection : ℕ) (key : Key) (said : Answer) → Effect
  -- it is closed: its peer is gone, or nothing is left to do, or memory was refused for it
  Closed : (connection : ℕ) → Effect

-- ---- one connection

-- its unread frame, of this body, is to be answered now
pub record IsDueWith (wire : Traffic) (body : List ℕ) : Type 0 where
  pub due : IsDue wire
  pub body_is : due.whole.body ≡ body

-- that frame was taken, and is answered at once by this text, which rests on so many entries
pub record AnswersNow (old : DispatcherState) (connection : ℕ) (body : List ℕ) (entries : ℕ) (text : List ℕ)
    (new : DispatcherState) : Type 0
  where
    pub frame : HasWire old.open_wires connection (λ wire. IsDueWith wire body)
    pub answers : ChangesBytes old connection
        (λ wire after. AnswersBy old.open_wires.written (taken wire) entries text after) new

-- that frame was taken, and its connection waits for the reply up to a moment
pub record WaitsNow (patience : ℕ) (old : DispatcherState) (connection : ℕ) (body : List ℕ) (key : Key)
    (new : DispatcherState) : Type 0
  where
    pub frame : HasWire old.open_wires connection (λ wire. IsDueWith wire body)
    pub takes : ChangesWire old.open_wires connection (λ wire after. after ≡ taken wire) new.open_wires
    pub lists : ListsOne old.changed connection new.changed
    pub hears : SetsSubscription old.hears connection
        (Some (record { key = key; until = old.now + patience }))
        new.hears
    pub rest : new ≡ record old { open_wires = new.open_wires; changed = new.changed; hears = new.hears }

-- it waits or is answered, depending on the answer
abbrev pub AnswersOrWaits : DispatcherTerms → DispatcherState → ℕ → List ℕ → Answer → DispatcherState → Type 0
AnswersOrWaits terms old connection body (answer.Waiting key) new =
    WaitsNow terms.patience old connection body key new
AnswersOrWaits terms old connection body (answer.Replied key reply) new =
    AnswersNow old connection body old.book.length (answer_text (answer.Replied key reply)) new
AnswersOrWaits terms old connection body (answer.Welcome epoch client incarnation version) new =
    AnswersNow old connection body old.book.length (answer_text (answer.Welcome epoch client incarnation
    version)) new
AnswersOrWaits terms old connection body (answer.Refused refusal) new =
    AnswersNow old connection body (rests_on (answer.Refused refusal) old.book.length)
    (answer_text (answer.Refused refusal)) new

-- it is closed, and no longer waits
pub record DoesClose (old : DispatcherState) (connection : ℕ) (new : DispatcherState) : Type 0 where
  pub there : HasWire old.open_wires connection (λ wire. Unit {0})
  pub sets : SetsWire old.open_wires connection None new.open_wires
  pub lists : ListsOne old.changed connection new.changed
  pub hears : SetsSubscription old.hears connection None new.hears
  pub rest : new ≡ record old { open_wires = new.open_wires; changed = new.changed; hears = new.hears }

-- ---- the book

-- a step with this message, by its own move, after which this is the book
pub record MakesStep (terms : DispatcherTerms) (old : DispatcherState) (step : Stepped) (said : Answer)
    (new : DispatcherState) :
    Type 0
  where
    pub move : Move
    pub moves : StateNextAtUnder terms.limits old.book old.now step.message move
    pub entries_are : step.entries ≡ move.entries
    pub said_is : said ≡ move.answer
    pub settled_are : step.settled ≡ keys_settled move.settles
    pub after : new ≡ record old { book = move.after }

-- ---- each effect

pub record DoesElapse (old : DispatcherState) (moment : ℕ) (entries : List Entry) (settled : List Key)
    (new : DispatcherState) : Type 0
  where
    pub later : old.now ≤ moment
    pub entries_are : entries ≡ (ticked_at old.book moment).entries
    pub settled_are : settled ≡ keys_settled (ticked_at old.book moment).settles
    pub after : new ≡ record old { now = moment; book = (ticked_at old.book moment).after }

pub record DoesOpen (old : DispatcherState) (connection : ℕ) (new : DispatcherState) : Type 0 where
  pub opens : OpensWire old.open_wires connection new.open_wires
  pub lists : ListsOne old.changed connection new.changed
  pub rest : new ≡ record old { open_wires = new.open_wires; changed = new.changed }

pub record DoesWrite (old : DispatcherState) (entries : ℕ) (new : DispatcherState) : Type 0 where
  pub rises : old.open_wires.written ≤ entries
  pub within : entries ≤ old.book.length
  pub releases : ReleasesAll old.open_wires entries new.open_wires
  pub lists : (connection : ℕ) → Contains new.changed connection
      ↔ (Contains old.changed connection ⊎ IsReleased old.open_wires entries connection)
  pub rest : new ≡ record old { open_wires = new.open_wires; changed = new.changed }

pub record DoesAsk (terms : DispatcherTerms) (old : DispatcherState) (connection : ℕ) (body : List ℕ) (step :
    Stepped)
    (said : Answer) (new : DispatcherState) : Type 0
  where
    pub is : IsMessageBody body step.message
    pub between : DispatcherState
    pub steps : MakesStep terms old step said between
    pub rest : AnswersOrWaits terms between connection body said new

-- the step that may have been made before memory was refused
pub record MadeFirst (terms : DispatcherTerms) (old : DispatcherState) (body : List ℕ) (step : Stepped)
    (new : DispatcherState) :
    Type 0
  where
    pub is : IsMessageBody body step.message
    pub said : Answer
    pub steps : MakesStep terms old step said new

abbrev pub MayHaveStepped : DispatcherTerms → DispatcherState → List ℕ → Option Stepped → DispatcherState
    → Type 0
MayHaveStepped terms old body None between = between ≡ old
MayHaveStepped terms old body (Some step) between = MadeFirst terms old body step between

pub record DoesLack (terms : DispatcherTerms) (old : DispatcherState) (connection : ℕ) (body : List ℕ)
    (step : Option Stepped) (new : DispatcherState) : Type 0
  where
    pub between : DispatcherState
    pub stepped : MayHaveStepped terms old body step between
    pub answers : AnswersNow between connection body 0 (answer_text (answer.Refused NoMemory)) new

pub record DoesLose (terms : DispatcherTerms) (old : DispatcherState) (connection : ℕ) (body : List ℕ) (step :
    Stepped)
    (new : DispatcherState) : Type 0
  where
    pub between : DispatcherState
    pub stepped : MadeFirst terms old body step between
    pub frame : HasWire between.open_wires connection (λ wire. IsDueWith wire body)
    pub closes : DoesClose between connection new

pub record DoesReadNothing (old : DispatcherState) (connection : ℕ) (body : List ℕ) (new : DispatcherState) :
    Type 0 where
  pub none : (message : Message) → ¬ IsMessageBody body message
  pub answers : AnswersNow old connection body 0 (answer_text (answer.Refused BadText)) new

-- a connection that waited has this answer, which rests on all entries so far, and no longer waits
pub record DoesTell (old : DispatcherState) (connection : ℕ) (key : Key) (said : Answer)
    (new : DispatcherState) :
    Type 0 where
  pub subscription : Subscription
  pub waited : old.hears connection ≡ Some subscription
  pub key_is : subscription.key ≡ key
  pub owed : HasWire old.open_wires connection (λ wire. wire.owes ≡ true)
  pub told : IsToldAgain old.book key said
  pub answers : ChangesWire old.open_wires connection
      (λ wire after. AnswersBy old.open_wires.written wire old.book.length (answer_text said) after)
      new.open_wires
  pub lists : ListsOne old.changed connection new.changed
  pub hears : SetsSubscription old.hears connection None new.hears
  pub rest : new ≡ record old { open_wires = new.open_wires; changed = new.changed; hears = new.hears }

abbrev pub Does : DispatcherTerms → DispatcherState → Effect → DispatcherState → Type 0
Does terms old (Elapsed moment entries settled) new = DoesElapse old moment entries settled new
Does terms old (Opened connection) new = DoesOpen old connection new
Does terms old (TookIn connection bytes) new =
    ChangesBytes old connection (λ wire after. TakesIn wire bytes (length bytes) after) new
Does terms old (EndedInput connection) new =
    ChangesBytes old connection (λ wire after. (wire.ended ≡ false) × (after ≡ input_ended wire)) new
Does terms old (Left connection count) new =
    ChangesBytes old connection (λ wire after. (count ≤ length wire.ready) × (after ≡ left_by wire count)) new
Does terms old (Wrote entries) new = DoesWrite old entries new
Does terms old (Asked connection body step said) new = DoesAsk terms old connection body step said new
Does terms old (ReadNothing connection body) new = DoesReadNothing old connection body new
Does terms old (Lacked connection body step) new = DoesLack terms old connection body step new
Does terms old (Lost connection body step) new = DoesLose terms old connection body step new
Does terms old (Told connection key said) new = DoesTell old connection key said new
Does terms old (Closed connection) new = DoesClose old connection new

-- one after another
abbrev pub DoesAll : DispatcherTerms → DispatcherState → List Effect → DispatcherState → Type 0
DoesAll terms old [] new = new ≡ old
DoesAll terms old (effect ∷ effects) new =
    (between : DispatcherState) × Does terms old effect between × DoesAll terms between effects new

-- ---- what is read off an effect

abbrev pub step_of : Effect → Option Stepped
step_of (Elapsed moment entries settled) = None
step_of (Opened connection) = None
step_of (TookIn connection bytes) = None
step_of (EndedInput connection) = None
step_of (Left connection count) = None
step_of (Wrote entries) = None
step_of (Asked connection body step said) = Some step
step_of (ReadNothing connection body) = None
step_of (Lacked connection body step) = step
step_of (Lost connection body step) = Some step
step_of (Told connection key said) = None
step_of (Closed connection) = None

abbrev pub step_entries : Option Stepped → List Entry
step_entries None = []
step_entries (Some step) = step.entries

abbrev pub step_settled : Option Stepped → List Key
step_settled None = []
step_settled (Some step) = step.settled

-- the entries that an effect made, in order
abbrev pub entries_of_effect : Effect → List Entry
entries_of_effect (Elapsed moment entries settled) = entries
entries_of_effect effect = step_entries (step_of effect)

-- the keys that an effect settled, in order
abbrev pub settled_by : Effect → List Key
settled_by (Elapsed moment entries settled) = settled
settled_by effect = step_settled (step_of effect)

-- the connections that were told, in order
abbrev pub told_of_effect : Effect → List ℕ
told_of_effect (Told connection key said) = connection ∷ []
told_of_effect effect = []

abbrev pub told_in_effects : List Effect → List ℕ
told_in_effects effects = flat_map told_of_effect effects

-- the bytes that were taken in, in order
abbrev pub bytes_by : Effect → List ℕ
bytes_by (TookIn connection bytes) = bytes
bytes_by effect = []

abbrev pub bytes_in : List Effect → List ℕ
bytes_in effects = flat_map bytes_by effects
