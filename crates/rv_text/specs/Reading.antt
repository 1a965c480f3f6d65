-- For private clauses: what the decoder looks for among the members of an object, each by its name.
use Rattle.std.specs.Prelude.{◌==◌, ℕ, Bool, List, [], ◌∷◌, length, codes, if◌then◌else◌}
use Rattle.std.specs.Prelude.{Option, Some, None, nat_eq}
use Rattle.std.specs.Str.{bytes_eq}
use Rattle.serde_json.specs.Data.{Members}
use Rattle.rv_text.specs.declared.version.Version.{Version}
use Rattle.rv_text.specs.declared.version.Version.TheVariants.{One, Two}
use Rattle.rv_text.specs.declared.message.Key.{Key}
use Rattle.rv_text.specs.declared.message.Message.{Message}
use Rattle.rv_text.specs.declared.message.Message.TheVariants as message
use Rattle.rv_text.specs.declared.call.Wait.{Wait}
use Rattle.rv_text.specs.declared.call.Wait.TheVariants as wait
use Rattle.rv_text.specs.declared.call.Call.{Call}
use Rattle.rv_text.specs.declared.call.Call.TheVariants as call
use Rattle.rv_text.specs.declared.answer.Reply.{Reply}
use Rattle.rv_text.specs.declared.answer.Reply.TheVariants as reply
use Rattle.rv_text.specs.declared.answer.Refusal.{Refusal}
use Rattle.rv_text.specs.declared.answer.Refusal.TheVariants as refusal
use Rattle.rv_text.specs.declared.answer.Answer.{Answer}
use Rattle.rv_text.specs.declared.answer.Answer.TheVariants as answer
use Rattle.rv_text.specs.Versions.{version_of}
use Rattle.rv_text.specs.Members.{Member}
use Rattle.rv_json.specs.Alone.{Form}
pub use Rattle.rv_json.specs.Finding.{Finds, FindsAmong, ◌>>=◌}
pub use Rattle.rv_json.specs.Finding.{whole_among, text_among, item_among, texts_among}
use Rattle.rv_text.specs.Rows.{message_row, answer_row, call_row}
use Rattle.rv_text.specs.Limits.{FitsMessage, FitsAnswer, FitsCall}

-- ---- the members of a row

-- what is found under a word or a number, as its line says
abbrev pub ReaderLine : Type 0 → Type 0 → Type 0
ReaderLine K A = K × (Members → Option A)

-- by the first line that has the same word or number as this
abbrev pub under : {K A : Type 0} → (K → K → Bool) → K → List (ReaderLine K A) → Members → Option A
under same key [] object = None
under same key (line ∷ lines) object =
    if same key line.0 then line.1 object else under same key lines object

abbrev pub among : {A : Type 0} → List ℕ → List (ReaderLine (List ℕ) A) → Members → Option A
among name lines members = do
  word ← text_among name members
  under bytes_eq word lines members

abbrev pub numbered_among : {A : Type 0} → List ℕ → List (ReaderLine ℕ A) → Members → Option A
numbered_among name lines members = do
  number ← whole_among name members
  under nat_eq number lines members

-- ---- values

abbrev pub queue_among : Members → Option ℕ
queue_among = whole_among (codes "queue")

abbrev pub wait_lines : List (ReaderLine (List ℕ) Wait)
wait_lines = (codes "now", λ ms. Some wait.Now) ∷ (codes "forever", λ ms. Some wait.Forever) ∷ []

abbrev pub wait_word_among : Members → Option Wait
wait_word_among members = among (codes "wait") wait_lines members

-- what is found by its number, or else by its word
abbrev pub by_number : {A : Type 0} → (ℕ → A) → Option ℕ → Option A → Option A
by_number is (Some n) by_word = Some (is n)
by_number is None by_word = by_word

abbrev pub wait_among : Members → Option Wait
wait_among members =
    by_number (λ millis. wait.Millis millis) (whole_among (codes "wait") members) (wait_word_among members)

abbrev pub key_among : Members → Option Key
key_among members = do
  epoch ← whole_among (codes "epoch") members
  client ← whole_among (codes "client") members
  incarnation ← whole_among (codes "incarnation") members
  number ← whole_among (codes "number") members
  Some (record { epoch = epoch; client = client; incarnation = incarnation; number = number })

abbrev pub put_among : Members → Option Call
put_among members = do
  queue ← queue_among members
  item ← item_among members
  Some (call.Put queue item)

abbrev pub take_among : Members → Option Call
take_among members = do
  queue ← queue_among members
  wait ← wait_among members
  Some (call.Take queue wait)

abbrev pub transfer_among : Members → Option Call
transfer_among members = do
  queue ← queue_among members
  wait ← wait_among members
  item ← item_among members
  Some (call.Transfer queue item wait)

abbrev pub swap_among : Members → Option Call
swap_among members = do
  exchanger ← whole_among (codes "exchanger") members
  wait ← wait_among members
  item ← item_among members
  Some (call.Swap exchanger item wait)

abbrev pub drain_among : Members → Option Call
drain_among members = do
  queue ← queue_among members
  max ← whole_among (codes "max") members
  Some (call.Drain queue max)

abbrev pub call_lines : List (ReaderLine (List ℕ) Call)
call_lines =
    (codes "put", put_among) ∷
    (codes "transfer", transfer_among) ∷
    (codes "take", take_among) ∷
    (codes "swap", swap_among) ∷
    (codes "count", λ ms. queue_among ms >>= λ queue. Some (call.Count queue)) ∷
    (codes "peek", λ ms. queue_among ms >>= λ queue. Some (call.Peek queue)) ∷
    (codes "drain", drain_among) ∷
    []

abbrev pub call_among : Members → Option Call
call_among members = among (codes "call") call_lines members

-- version 2 if its member says so, else version 1: with another value there is one member too many
abbrev pub version_told : Option ℕ → Version
version_told None = One
version_told (Some n) = if n == 2 then Two else One

abbrev pub version_among : Members → Version
version_among members = version_told (whole_among (codes "version") members)

abbrev pub hello_among : Members → Option Message
hello_among members = do
  client ← whole_among (codes "client") members
  incarnation ← whole_among (codes "incarnation") members
  Some (message.Hello client incarnation (version_among members))

abbrev pub request_among : Members → Option Message
request_among members = do
  key ← key_among members
  call ← call_among members
  Some (message.Request key call)

abbrev pub cancel_among : Members → Option Message
cancel_among members = do
  key ← key_among members
  Some (message.Cancel key)

abbrev pub message_lines : List (ReaderLine (List ℕ) Message)
message_lines =
    (codes "hello", hello_among) ∷ (codes "request", request_among) ∷ (codes "cancel", cancel_among) ∷ []

abbrev pub message_among : Members → Option Message
message_among members = among (codes "kind") message_lines members

abbrev pub counted_among : Members → Option Reply
counted_among members = do
  items ← whole_among (codes "items") members
  consumers ← whole_among (codes "consumers") members
  Some (reply.Counted items consumers)

-- the consumer of this epoch and client
abbrev pub taker_among : ℕ → ℕ → Members → Option Reply
taker_among epoch client members = do
  incarnation ← whole_among (codes "by_incarnation") members
  number ← whole_among (codes "by_number") members
  Some (reply.ReceivedBy
      (record { epoch = epoch; client = client; incarnation = incarnation; number = number }))

-- the consumer that received it, if a member names the client, and else that it was received
abbrev pub received_by : ℕ → Option ℕ → Members → Option Reply
received_by epoch None _ = Some reply.Received
received_by epoch (Some client) members = taker_among epoch client members

abbrev pub received_among : ℕ → Members → Option Reply
received_among epoch members = received_by epoch (whole_among (codes "by_client") members) members

-- a reply in an answer of this epoch
abbrev pub reply_lines : ℕ → List (ReaderLine (List ℕ) Reply)
reply_lines epoch =
    (codes "done", λ ms. Some reply.Done) ∷
    (codes "received", received_among epoch) ∷
    (codes "nobody", λ ms. Some reply.Nobody) ∷
    (codes "item", λ ms. item_among ms >>= λ item. Some (reply.Item item)) ∷
    (codes "empty", λ ms. Some reply.Empty) ∷
    (codes "swapped", λ ms. item_among ms >>= λ item. Some (reply.Swapped item)) ∷
    (codes "timedout", λ ms. Some reply.TimedOut) ∷
    (codes "cancelled", λ ms. Some reply.Cancelled) ∷
    (codes "counted", counted_among) ∷
    (codes "peeked", λ ms. item_among ms >>= λ item. Some (reply.Peeked item)) ∷
    (codes "drained", λ ms. texts_among ms >>= λ texts. Some (reply.Drained texts)) ∷
    []

abbrev pub reply_among : ℕ → Members → Option Reply
reply_among epoch members = among (codes "reply") (reply_lines epoch) members

-- a refusal that carries the number of this name
abbrev pub refusal_telling : List ℕ → (ℕ → Refusal) → Members → Option Refusal
refusal_telling name refuses members = do
  number ← whole_among name members
  Some (refuses number)

abbrev pub current_version_among : Members → Option Version
current_version_among members = do
  number ← whole_among (codes "current") members
  version_of number

abbrev pub refusal_telling_version : Members → Option Refusal
refusal_telling_version members = do
  current ← current_version_among members
  Some (refusal.OtherVersion current)

abbrev pub refusal_lines : List (ReaderLine ℕ Refusal)
refusal_lines =
    (1, λ ms. Some refusal.BadText) ∷
    (2, refusal_telling (codes "current") (λ current. refusal.OtherEpoch current)) ∷
    (3, λ ms. Some refusal.NoSession) ∷
    (4, refusal_telling (codes "current") (λ current. refusal.OldIncarnation current)) ∷
    (5, refusal_telling (codes "last") (λ last. refusal.OldNumber last)) ∷
    (6, λ ms. Some refusal.OtherCall) ∷
    (7, refusal_telling (codes "open") (λ waiting. refusal.Busy waiting)) ∷
    (8, refusal_telling (codes "last") (λ last. refusal.Gap last)) ∷
    (9, λ ms. Some refusal.ClientsFull) ∷
    (10, λ ms. Some refusal.EpochFull) ∷
    (11, λ ms. Some refusal.NoMemory) ∷
    (12, refusal_telling_version) ∷
    []

abbrev pub refusal_among : Members → Option Refusal
refusal_among members = numbered_among (codes "code") refusal_lines members

abbrev pub welcome_among : Members → Option Answer
welcome_among members = do
  epoch ← whole_among (codes "epoch") members
  client ← whole_among (codes "client") members
  incarnation ← whole_among (codes "incarnation") members
  Some (answer.Welcome epoch client incarnation (version_among members))

abbrev pub replied_among : Members → Option Answer
replied_among members = do
  key ← key_among members
  reply ← reply_among key.epoch members
  Some (answer.Replied key reply)

abbrev pub waiting_among : Members → Option Answer
waiting_among members = do
  key ← key_among members
  Some (answer.Waiting key)

abbrev pub refused_among : Members → Option Answer
refused_among members = do
  refusal ← refusal_among members
  Some (answer.Refused refusal)

abbrev pub answer_lines : List (ReaderLine (List ℕ) Answer)
answer_lines =
    (codes "welcome", welcome_among) ∷
    (codes "reply", replied_among) ∷
    (codes "waiting", waiting_among) ∷
    (codes "refused", refused_among) ∷
    []

abbrev pub answer_among : Members → Option Answer
answer_among members = among (codes "kind") answer_lines members

-- ---- what is alone in an object

-- what a body may be read as: how it is found, its members and its limits
pub record Shape (A : Type 0) : Type 1 where
  -- found among any other members, with no limit checked but that a list has at most 16 texts
  pub found : Members → Option A
  pub row : A → List Member
  pub Fits : A → Type 0

abbrev pub messages : Shape Message
messages = record { found = message_among; row = message_row; Fits = FitsMessage }

abbrev pub answers : Shape Answer
answers = record { found = answer_among; row = answer_row; Fits = FitsAnswer }

abbrev pub calls : Shape Call
calls = record { found = call_among; row = call_row; Fits = FitsCall }

-- the form of a value that has such a row
abbrev pub form_of : {A : Type 0} → Shape A → Form A
form_of shape = record { found = shape.found; size = λ x. length (shape.row x); Fits = shape.Fits }
