-- One step, under any limits and under a book's: the answer to a message, and which accounts may stand after
-- it.
use Rattle.std.specs.Prelude.{◌≡◌, ◌≢◌, ◌⊎◌, ◌<◌, ◌≤◌, ◌+◌, ℕ, List, length, Option, None, Some, min, max}
use Rattle.rv_text.specs.declared.version.Version.{Version}
use Rattle.rv_text.specs.declared.message.Key.{Key}
use Rattle.rv_text.specs.declared.call.Call.{Call}
use Rattle.rv_text.specs.declared.message.Message.{Message}
use Rattle.rv_text.specs.declared.message.Message.TheVariants.{Hello, Request, Cancel}
use Rattle.rv_text.specs.declared.answer.Reply.TheVariants.{Cancelled}
use Rattle.rv_text.specs.declared.answer.Reply.{Reply}
use Rattle.rv_text.specs.declared.answer.Refusal.{Refusal}
use Rattle.rv_text.specs.declared.answer.Refusal.TheVariants.{OtherEpoch, NoSession, OldIncarnation}
use Rattle.rv_text.specs.declared.answer.Refusal.TheVariants.{OldNumber, OtherCall, Busy, Gap, ClientsFull}
use Rattle.rv_text.specs.declared.answer.Refusal.TheVariants.{EpochFull, NoMemory, OtherVersion}
use Rattle.rv_text.specs.declared.answer.Answer.{Answer}
use Rattle.rv_text.specs.declared.answer.Answer.TheVariants.{Welcome, Replied, Refused}
use Rattle.rv_text.specs.declared.answer.Answer as answer
pub use Rattle.rv_account.specs.rules.StepLimits.{StepLimits, book_limits, max_clients, max_entries}
use Rattle.rv_account.specs.declared.entry.Entry.{Entry}
use Rattle.rv_account.specs.declared.entry.Act.{Act}
use Rattle.rv_account.specs.declared.entry.Act as act
use Rattle.rv_account.specs.Account.{Account, act_at, with_entry}
use Rattle.rv_account.specs.Calls.{Stays, need_of}
pub use Rattle.rv_account.specs.Account.{own_moment}
pub use Rattle.rv_account.specs.Limits.{max_moment}
use Rattle.rv_account.specs.rules.Counting.{NumberOf}
use Rattle.rv_account.specs.rules.Sessions.{HasIncarnation, HasOnlyLower, HasOpened, LastNumber, SaidHello}
use Rattle.rv_account.specs.rules.Waiting.{Open, Waiting}
use Rattle.rv_account.specs.rules.Legal.{HasWaiting, IsOpenOpposite, Legal, SomethingDue, WaitsUnder}
use Rattle.rv_account.specs.rules.Replies.{HasReply}

-- ---- the step's moment

-- a greater moment counts as that
abbrev pub capped_moment : ℕ → ℕ
capped_moment now = min now max_moment

-- a lower moment counts as the book's own
abbrev pub step_moment : Account → ℕ → ℕ
step_moment a now = max (own_moment a) (capped_moment now)

-- ---- when each refusal is due

-- the key's epoch isn't the book's
abbrev pub OtherEpochDue : Account → Key → Refusal → Type 0
OtherEpochDue a key refusal = (key.epoch ≢ a.epoch) × (refusal ≡ OtherEpoch a.epoch)

-- in this epoch the client said no hello of so great an incarnation, nor of a greater one
abbrev pub NoSessionDue : Account → Key → Refusal → Type 0
NoSessionDue a key refusal = HasOnlyLower a.entries key.client key.incarnation × (refusal ≡ NoSession)

-- the session has a greater incarnation
pub record OldIncarnationDue (a : Account) (client incarnation : ℕ) (refusal : Refusal) : Type 0 where
  pub current : ℕ
  pub has : HasIncarnation a.entries client current
  pub lower : incarnation < current
  pub is : refusal ≡ OldIncarnation current

-- the session has this incarnation, and another version
pub record OtherVersionDue (a : Account) (client incarnation : ℕ) (version : Version) (refusal : Refusal)
    : Type 0 where
  pub current : Version
  pub has : HasOpened a.entries client incarnation current
  pub other : current ≢ version
  pub is : refusal ≡ OtherVersion current

-- the number is below the session's last; 0, which no request has, counts as below
pub record OldNumberDue (a : Account) (key : Key) (refusal : Refusal) : Type 0 where
  pub last : ℕ
  pub is_last : LastNumber a.entries key.client last
  pub old : (key.number < last) ⊎ (key.number ≡ 0)
  pub is : refusal ≡ OldNumber last

-- the request with this key arrived, and it arrived with another call
pub record OtherCallDue (a : Account) (key : Key) (call : Call) (refusal : Refusal) : Type 0 where
  pub place : ℕ
  pub other : Call
  pub arrived : act_at a.entries place ≡ Some (act.TheVariants.Arrive key other)
  pub differs : other ≢ call
  pub is : refusal ≡ OtherCall

-- a request of the session waits, whatever the key's number is; the refusal carries the session's last number
pub record BusyDue (a : Account) (key : Key) (refusal : Refusal) : Type 0 where
  pub last : ℕ
  pub is_last : LastNumber a.entries key.client last
  pub waits : HasWaiting a.entries key.client
  pub is : refusal ≡ Busy last

-- the number is above the last plus one
pub record GapDue (a : Account) (key : Key) (refusal : Refusal) : Type 0 where
  pub last : ℕ
  pub is_last : LastNumber a.entries key.client last
  pub above : last + 1 < key.number
  pub is : refusal ≡ Gap last

-- the client is new, and as many clients said a hello as there may be
pub record ClientsFullDueUnder (limits : StepLimits) (a : Account) (client : ℕ) (refusal : Refusal) : Type 0
  where
    pub is_new : ¬ SaidHello a.entries client
    pub clients : ℕ
    pub count : NumberOf (SaidHello a.entries) clients
    pub full : limits.clients ≤ clients
    pub is : refusal ≡ ClientsFull

-- the entries, those that the waiting requests may come to need and those that are needed now are more than
-- there may be
pub record EpochFullDueUnder (limits : StepLimits) (a : Account) (need : ℕ) (refusal : Refusal) : Type 0 where
  pub waiting : ℕ
  pub count : NumberOf (Waiting a.entries) waiting
  pub full : limits.entries < length a.entries + waiting + need
  pub is : refusal ≡ EpochFull

-- an arrival with this call would stay: its call does, and there is nobody that it would meet
pub record WouldStay (entries : List Entry) (call : Call) : Type 0 where
  pub stays : Stays call
  pub alone : (p : ℕ) → ¬ IsOpenOpposite entries call p

-- an arrival with this call would stay, and as many places are open as may be
pub record PlacesFullDue (most : ℕ) (a : Account) (call : Call) (refusal : Refusal) : Type 0 where
  pub would_stay : WouldStay a.entries call
  pub places : ℕ
  pub count : NumberOf (Open a.entries) places
  pub full : most ≤ places
  pub is : refusal ≡ EpochFull

-- under a book's limits: the client is new, and 1,024 clients said a hello
abbrev pub ClientsFullDue : Account → ℕ → Refusal → Type 0
ClientsFullDue = ClientsFullDueUnder book_limits

-- under a book's limits: all these entries are more than 100,000
abbrev pub EpochFullDue : Account → ℕ → Refusal → Type 0
EpochFullDue = EpochFullDueUnder book_limits

-- ---- the lines of a step, of which the first that applies decides

-- a refusal is due, and it refuses
pub record RefusesDue (due refuses : Refusal → Type 0) : Type 0 where
  pub refusal : Refusal
  pub is_due : due refusal
  pub refuses_it : refuses refusal

-- a refusal that is due refuses; else the step goes on
abbrev pub RefuseOr : (Refusal → Type 0) → (Refusal → Type 0) → Type 0 → Type 0
RefuseOr due refuses otherwise = RefusesDue due refuses ⊎ (((refusal : Refusal) → ¬ due refusal) × otherwise)

-- where the condition holds, this; else that
abbrev pub WhereElse : Type 0 → Type 0 → Type 0 → Type 0
WhereElse condition this that = (condition × this) ⊎ ((¬ condition) × that)

-- the lines for a key, by what a refusal does, what happens at the last number and what at one above it
abbrev pub KeyLines : Account → Key → (Refusal → Type 0) → Type 0 → Type 0 → Type 0
KeyLines a key refuses at_last above =
    RefuseOr (OtherEpochDue a key) refuses
    (RefuseOr (NoSessionDue a key) refuses
    (RefuseOr (OldIncarnationDue a key.client key.incarnation) refuses
    (RefuseOr (OldNumberDue a key) refuses
    (WhereElse (LastNumber a.entries key.client key.number) at_last
    (RefuseOr (BusyDue a key) refuses
    (RefuseOr (GapDue a key) refuses
    above))))))

-- the line of a bound on open places, where there is one
abbrev pub PlaceLine : Option ℕ → Account → Call → (Refusal → Type 0) → Type 0 → Type 0
PlaceLine None a call refuses enters = enters
PlaceLine (Some most) a call refuses enters = RefuseOr (PlacesFullDue most a call) refuses enters

-- the lines for a request: also what happens where it is a repeat
abbrev pub RequestLinesUnder : StepLimits → Account → Key → Call → (Refusal → Type 0) → Type 0 → Type 0
    → Type 0
RequestLinesUnder limits a key call refuses repeats enters =
    KeyLines a key refuses
    (RefuseOr (OtherCallDue a key call) refuses
    repeats)
    (RefuseOr (EpochFullDueUnder limits a (need_of call)) refuses
    (PlaceLine limits.open_places a call refuses
    enters))

-- the lines for a cancel: also what happens where its request waits, and where the last number is settled
abbrev pub CancelLinesUnder : StepLimits → Account → Key → (Refusal → Type 0) → Type 0 → Type 0 → Type 0
    → Type 0
CancelLinesUnder limits a key refuses ends repeats enters =
    KeyLines a key refuses
    (WhereElse (WaitsUnder a.entries key) ends
    repeats)
    (RefuseOr (EpochFullDueUnder limits a 1) refuses
    enters)

-- the lines for a hello: also what happens where it is a repeat
abbrev pub HelloLinesUnder : StepLimits → Account → ℕ → ℕ → Version → (Refusal → Type 0) → Type 0 → Type 0
    → Type 0
HelloLinesUnder limits a client incarnation version refuses repeats enters =
    RefuseOr (OldIncarnationDue a client incarnation) refuses
    (RefuseOr (OtherVersionDue a client incarnation version) refuses
    (WhereElse (HasIncarnation a.entries client incarnation) repeats
    (RefuseOr (ClientsFullDueUnder limits a client) refuses
    (RefuseOr (EpochFullDueUnder limits a 1) refuses
    enters))))

-- the lines under a book's limits
abbrev pub RequestLines : Account → Key → Call → (Refusal → Type 0) → Type 0 → Type 0 → Type 0
RequestLines = RequestLinesUnder book_limits

abbrev pub CancelLines : Account → Key → (Refusal → Type 0) → Type 0 → Type 0 → Type 0 → Type 0
CancelLines = CancelLinesUnder book_limits

abbrev pub HelloLines : Account → ℕ → ℕ → Version → (Refusal → Type 0) → Type 0 → Type 0 → Type 0
HelloLines = HelloLinesUnder book_limits

-- ---- the accounts after a step

-- the account stays, and the refusal is the answer
abbrev pub Refuses : Account → Account → Answer → Refusal → Type 0
Refuses a b answer refusal = (b ≡ a) × (answer ≡ Refused refusal)

-- the second account is legal, and it is the first with one more entry, of this moment and act
pub record Adds (a : Account) (moment : ℕ) (does : Act) (b : Account) : Type 0 where
  pub entry : Entry
  pub moment_is : entry.moment ≡ moment
  pub act_is : entry.act ≡ does
  pub follows : b ≡ with_entry a entry
  pub legal : Legal b

-- the answer is the reply of the request with this key
pub record Replies (b : Account) (key : Key) (answer : Answer) : Type 0 where
  pub reply : Reply
  pub has : HasReply b.entries key reply
  pub is : answer ≡ Replied key reply

-- the answer is the reply of the request with this key, or that it waits
abbrev pub Answers : Account → Key → Answer → Type 0
Answers b key said =
    Replies b key said ⊎ (WaitsUnder b.entries key × (said ≡ answer.TheVariants.Waiting key))

-- the account stays, and the answer is the only one that the request with this key has
pub record Repeats (a b : Account) (key : Key) (answer : Answer) : Type 0 where
  pub account : b ≡ a
  pub answers : Answers a key answer
  pub only : (other : Answer) → Answers a key other → other ≡ answer

-- where a growth was refused the account stays; else it gets the message's own entry
abbrev pub EntersOrNoMemory : Account → ℕ → Act → Account → Answer → Type 0 → Type 0
EntersOrNoMemory a moment does b answer answers =
    Refuses a b answer NoMemory ⊎ (Adds a moment does b × answers)

-- the step of a message at a moment: the accounts before and after, and the answer
abbrev pub NextAtUnder : StepLimits → Account → ℕ → Message → Account → Answer → Type 0
NextAtUnder limits a moment (Hello client incarnation version) b answer =
    HelloLinesUnder limits a client incarnation version (Refuses a b answer)
    ((b ≡ a) × (answer ≡ Welcome a.epoch client incarnation version))
    (EntersOrNoMemory a moment (act.TheVariants.Hello client incarnation version) b answer
    (answer ≡ Welcome a.epoch client incarnation version))
NextAtUnder limits a moment (Request key call) b answer =
    RequestLinesUnder limits a key call (Refuses a b answer)
    (Repeats a b key answer)
    (EntersOrNoMemory a moment (act.TheVariants.Arrive key call) b answer
    (Answers b key answer))
NextAtUnder limits a moment (Cancel key) b answer =
    CancelLinesUnder limits a key (Refuses a b answer)
    (Adds a moment (act.TheVariants.Cancel key) b × (answer ≡ Replied key Cancelled))
    (Repeats a b key answer)
    (EntersOrNoMemory a moment (act.TheVariants.Cancel key) b answer
    (Replies b key answer))

-- the account after the time-outs of a step: where something is due at its moment, with one more tick of that
-- moment, which ends all that is due; else the same
abbrev pub Ticks : Account → ℕ → Account → Type 0
Ticks a moment b = WhereElse (SomethingDue a.entries moment) (Adds a moment act.TheVariants.Tick b) (b ≡ a)

-- one step: the account before, the moment that is handed in, the message, the account after and the answer
pub record NextUnder (limits : StepLimits) (a : Account) (now : ℕ) (m : Message) (b : Account)
    (answer : Answer) : Type 0 where
  pub ticked : Account
  pub ticks : Ticks a (step_moment a now) ticked
  pub steps : NextAtUnder limits ticked (step_moment a now) m b answer

-- ---- a step under a book's limits

abbrev pub NextAt : Account → ℕ → Message → Account → Answer → Type 0
NextAt = NextAtUnder book_limits

abbrev pub Next : Account → ℕ → Message → Account → Answer → Type 0
Next = NextUnder book_limits
