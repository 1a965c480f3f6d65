-- When the numbers and items of a value are within their limits: if the members of its row are.
use Rattle.std.specs.Prelude.{◌≡◌, ℕ}
use Rattle.rv_text.specs.declared.message.Key.{Key}
use Rattle.rv_text.specs.declared.message.Message.{Message}
use Rattle.rv_text.specs.declared.message.Message.TheVariants as message
use Rattle.rv_text.specs.declared.call.Side.{Side}
use Rattle.rv_text.specs.declared.call.Call.{Call}
use Rattle.rv_text.specs.declared.answer.Reply.{Reply}
use Rattle.rv_text.specs.declared.answer.Reply.TheVariants as reply
use Rattle.rv_text.specs.declared.answer.Refusal.{Refusal}
use Rattle.rv_text.specs.declared.answer.Answer.{Answer}
use Rattle.rv_text.specs.declared.answer.Answer.TheVariants as answer
use Rattle.rv_text.specs.Members as members
pub use Rattle.rv_text.specs.Members.{FitsItem, FitsItems, FitsWait}
use Rattle.rv_text.specs.Calls.{side_of, wait_of, MayWait}
use Rattle.rv_text.specs.Rows.{side_row, call_row, reply_row, detail_row}

abbrev pub FitsIdentifier : ℕ → Type 0
FitsIdentifier n = members.Keeps members.identifiers n

abbrev pub FitsLast : ℕ → Type 0
FitsLast last = members.Keeps members.last_numbers last

abbrev pub FitsQueue : ℕ → Type 0
FitsQueue queue = members.Keeps members.queue_numbers queue

-- how many items a drain takes at most
abbrev pub FitsMax : ℕ → Type 0
FitsMax max = members.Keeps members.drain_numbers max

abbrev pub FitsKey : Key → Type 0
FitsKey key =
    FitsIdentifier key.epoch ×
    FitsIdentifier key.client ×
    FitsIdentifier key.incarnation ×
    FitsIdentifier key.number

-- its queue's or exchanger's number
abbrev pub FitsSide : Side → Type 0
FitsSide side = members.AllWithin (side_row side)

abbrev pub FitsCall : Call → Type 0
FitsCall call = members.AllWithin (call_row call) × MayWait (side_of call) (wait_of call)

abbrev pub FitsMessage : Message → Type 0
FitsMessage (message.Hello client incarnation version) =
    FitsIdentifier client × FitsIdentifier incarnation
FitsMessage (message.Request key call) = FitsKey key × FitsCall call
FitsMessage (message.Cancel key) = FitsKey key

abbrev pub FitsReply : Reply → Type 0
FitsReply reply = members.AllWithin (reply_row reply)

-- the consumer that a reply names is of this epoch
abbrev pub IsOfEpoch : ℕ → Reply → Type 0
IsOfEpoch epoch (reply.ReceivedBy taker) = taker.epoch ≡ epoch
IsOfEpoch epoch _ = Unit {0}

abbrev pub FitsRefusal : Refusal → Type 0
FitsRefusal refusal = members.AllWithin (detail_row refusal)

abbrev pub FitsAnswer : Answer → Type 0
FitsAnswer (answer.Welcome epoch client incarnation version) =
    FitsIdentifier epoch × FitsIdentifier client × FitsIdentifier incarnation
FitsAnswer (answer.Replied key reply) = FitsKey key × FitsReply reply × IsOfEpoch key.epoch reply
FitsAnswer (answer.Waiting key) = FitsKey key
FitsAnswer (answer.Refused refusal) = FitsRefusal refusal
