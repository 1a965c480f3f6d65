-- The members of each body: one short row for each kind of value.
use Rattle.std.specs.Prelude.{ℕ, List, [], ◌∷◌, ◌++◌, codes, Option, Some, None}
use Rattle.rv_text.specs.declared.message.Key.{Key}
use Rattle.rv_text.specs.declared.version.Version.{Version}
use Rattle.rv_text.specs.declared.version.Version.TheVariants.{One, Two}
use Rattle.rv_text.specs.declared.message.Message.{Message}
use Rattle.rv_text.specs.declared.message.Message.TheVariants as message
use Rattle.rv_text.specs.declared.call.Wait.{Wait}
use Rattle.rv_text.specs.declared.call.Side.{Side}
use Rattle.rv_text.specs.declared.call.Side.TheVariants as side
use Rattle.rv_text.specs.declared.call.Call.{Call}
use Rattle.rv_text.specs.declared.answer.Reply.{Reply}
use Rattle.rv_text.specs.declared.answer.Reply.TheVariants as reply
use Rattle.rv_text.specs.declared.answer.Refusal.{Refusal}
use Rattle.rv_text.specs.declared.answer.Refusal.TheVariants as refusal
use Rattle.rv_text.specs.declared.answer.Answer.{Answer}
use Rattle.rv_text.specs.declared.answer.Answer.TheVariants as answer
use Rattle.rv_text.specs.Calls.{Nature, nature_of}
use Rattle.rv_text.specs.Versions.{number_of_version}
use Rattle.rv_text.specs.Members.{Member, word, whole, item_text, item_texts, wait_time}
use Rattle.rv_text.specs.Members as members

-- ---- members by name

abbrev identifier : List ℕ → ℕ → Member
identifier name n = whole name members.identifiers n

abbrev last_number : ℕ → Member
last_number n = whole (codes "last") members.last_numbers n

abbrev counted_number : List ℕ → ℕ → Member
counted_number name n = whole name members.counted_numbers n

abbrev item : List ℕ → Member
item bytes = item_text (codes "item") bytes

-- ---- messages

abbrev pub key_row : Key → List Member
key_row key =
    identifier (codes "epoch") key.epoch ∷
    identifier (codes "client") key.client ∷
    identifier (codes "incarnation") key.incarnation ∷
    identifier (codes "number") key.number ∷
    []

abbrev at_queue : ℕ → List Member
at_queue queue = whole (codes "queue") members.queue_numbers queue ∷ []

abbrev pub side_row : Side → List Member
side_row (side.Gives queue) = at_queue queue
side_row (side.Takes queue) = at_queue queue
side_row (side.Looks queue) = at_queue queue
side_row (side.Exchanges exchanger) = whole (codes "exchanger") members.exchanger_numbers exchanger ∷ []

abbrev pub wait_row : Option Wait → List Member
wait_row None = []
wait_row (Some waits) = wait_time (codes "wait") waits ∷ []

-- a drain, which never waits, gives its greatest number in place of a wait
abbrev pub max_or_wait_row : Option ℕ → Option Wait → List Member
max_or_wait_row None waits = wait_row waits
max_or_wait_row (Some max) waits = whole (codes "max") members.drain_numbers max ∷ []

abbrev pub item_row : Option (List ℕ) → List Member
item_row None = []
item_row (Some bytes) = item bytes ∷ []

-- a call's members are those of its nature
abbrev pub nature_row : Nature → List Member
nature_row nature =
    word (codes "call") nature.word ∷
    (side_row nature.side ++ (max_or_wait_row nature.drains nature.wait ++ item_row nature.item))

abbrev pub call_row : Call → List Member
call_row call = nature_row (nature_of call)

-- version 1 goes without saying
abbrev pub version_row : Version → List Member
version_row One = []
version_row Two = whole (codes "version") members.version_numbers (number_of_version Two) ∷ []

abbrev pub message_row : Message → List Member
message_row (message.Hello client incarnation version) =
    word (codes "kind") (codes "hello") ∷
    identifier (codes "client") client ∷
    identifier (codes "incarnation") incarnation ∷
    version_row version
message_row (message.Request key call) =
    word (codes "kind") (codes "request") ∷ (key_row key ++ call_row call)
message_row (message.Cancel key) = word (codes "kind") (codes "cancel") ∷ key_row key

-- ---- answers

abbrev pub texts_row : List (List ℕ) → List Member
texts_row items = item_texts (codes "texts") items ∷ []

-- the key of a consumer; its epoch is that of the answer
abbrev pub taker_row : Key → List Member
taker_row taker =
    identifier (codes "by_client") taker.client ∷
    identifier (codes "by_incarnation") taker.incarnation ∷
    identifier (codes "by_number") taker.number ∷
    []

abbrev pub reply_row : Reply → List Member
reply_row reply.Done = word (codes "reply") (codes "done") ∷ []
reply_row reply.Received = word (codes "reply") (codes "received") ∷ []
reply_row (reply.ReceivedBy taker) = word (codes "reply") (codes "received") ∷ taker_row taker
reply_row reply.Nobody = word (codes "reply") (codes "nobody") ∷ []
reply_row (reply.Item bytes) = word (codes "reply") (codes "item") ∷ item bytes ∷ []
reply_row reply.Empty = word (codes "reply") (codes "empty") ∷ []
reply_row (reply.Swapped bytes) = word (codes "reply") (codes "swapped") ∷ item bytes ∷ []
reply_row reply.TimedOut = word (codes "reply") (codes "timedout") ∷ []
reply_row reply.Cancelled = word (codes "reply") (codes "cancelled") ∷ []
reply_row (reply.Counted items consumers) =
    word (codes "reply") (codes "counted") ∷
    counted_number (codes "items") items ∷
    counted_number (codes "consumers") consumers ∷
    []
reply_row (reply.Peeked bytes) = word (codes "reply") (codes "peeked") ∷ item bytes ∷ []
reply_row (reply.Drained items) = word (codes "reply") (codes "drained") ∷ texts_row items

-- the refusals by their numbers, which but for 12 are in the order in which a message is checked
abbrev pub code_of : Refusal → ℕ
code_of refusal.BadText = 1
code_of (refusal.OtherEpoch current) = 2
code_of refusal.NoSession = 3
code_of (refusal.OldIncarnation current) = 4
code_of (refusal.OldNumber number) = 5
code_of refusal.OtherCall = 6
code_of (refusal.Busy waiting) = 7
code_of (refusal.Gap number) = 8
code_of refusal.ClientsFull = 9
code_of refusal.EpochFull = 10
code_of refusal.NoMemory = 11
code_of (refusal.OtherVersion current) = 12

-- what a refusal says besides its code
abbrev pub detail_row : Refusal → List Member
detail_row refusal.BadText = []
detail_row (refusal.OtherEpoch current) = identifier (codes "current") current ∷ []
detail_row refusal.NoSession = []
detail_row (refusal.OldIncarnation current) = identifier (codes "current") current ∷ []
detail_row (refusal.OldNumber number) = last_number number ∷ []
detail_row refusal.OtherCall = []
detail_row (refusal.Busy waiting) = identifier (codes "open") waiting ∷ []
detail_row (refusal.Gap number) = last_number number ∷ []
detail_row refusal.ClientsFull = []
detail_row refusal.EpochFull = []
detail_row refusal.NoMemory = []
detail_row (refusal.OtherVersion current) =
    whole (codes "current") members.version_numbers (number_of_version current) ∷ []

abbrev pub answer_row : Answer → List Member
answer_row (answer.Welcome epoch client incarnation version) =
    word (codes "kind") (codes "welcome") ∷
    identifier (codes "epoch") epoch ∷
    identifier (codes "client") client ∷
    identifier (codes "incarnation") incarnation ∷
    version_row version
answer_row (answer.Replied key reply) =
    word (codes "kind") (codes "reply") ∷ (key_row key ++ reply_row reply)
answer_row (answer.Waiting key) = word (codes "kind") (codes "waiting") ∷ key_row key
answer_row (answer.Refused refusal) =
    word (codes "kind") (codes "refused") ∷
    whole (codes "code") members.code_numbers (code_of refusal) ∷
    detail_row refusal
