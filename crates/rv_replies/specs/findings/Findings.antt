-- What an account says of a reply that a client got: the first finding that applies, in order. The first two
-- say that the account gives it.
use Rattle.std.specs.Prelude.{◌≡◌, ◌≢◌, ◌⊎◌, ◌<◌, ℕ, List, Some}
use Rattle.rv_text.specs.declared.answer.Reply.{Reply}
use Rattle.rv_text.specs.declared.answer.Reply.TheVariants.{Cancelled}
use Rattle.rv_text.specs.declared.call.Call.{Call}
use Rattle.rv_text.specs.declared.message.Key.{Key}
use Rattle.rv_text.specs.declared.version.Version.TheVariants.{One, Two}
use Rattle.rv_account.specs.Account.{Account, act_at}
use Rattle.rv_account.specs.declared.entry.Act.TheVariants.{Arrive}
use Rattle.rv_account.specs.declared.entry.Entry.{Entry}
use Rattle.rv_account.specs.state.resume.Suiting.{SuitsCall}
use Rattle.rv_account.specs.rules.Replies.{CancelledFirst}
use Rattle.rv_account.specs.state.Agreement.{HasReplied}
use Rattle.rv_replies.specs.findings.Fates.{GivesReply, NamesNowhere, WaitsWith}
use Rattle.rv_replies.specs.declared.findings.Told.{Told}
use Rattle.rv_replies.specs.declared.findings.Finding.{Finding}
use Rattle.rv_replies.specs.declared.findings.Finding.TheVariants.{Impossible, Kept, KeptUnseen, NoRecord}
use Rattle.rv_replies.specs.declared.findings.Finding.TheVariants.{NoRequest, OtherCall, OtherEpoch}
use Rattle.rv_replies.specs.declared.findings.Finding.TheVariants.{OtherReply, Waiting}

-- a request with this call may get this reply, in a session of either version, or if it was cancelled before
-- it came
abbrev pub MayBeTold : Call → Reply → Type 0
MayBeTold call reply = SuitsCall One call reply ⊎ SuitsCall Two call reply ⊎ (reply ≡ Cancelled)

-- the request with this key came with another call
pub record CameOtherwise (entries : List Entry) (key : Key) (call : Call) : Type 0 where
  pub place : ℕ
  pub other : Call
  pub came : act_at entries place ≡ Some (Arrive key other)
  pub differs : other ≢ call

-- the entries give the key another reply, by a request with this call or by a cancel before it came
pub record GivesOther (entries : List Entry) (key : Key) (call : Call) (reply : Reply) : Type 0 where
  pub other : Reply
  pub gives : GivesReply entries key call other
  pub differs : other ≢ reply

-- the finding is true of the reply
abbrev pub IsSaid : Account → Told → Finding → Type 0
IsSaid a told Kept = HasReplied a.entries told.key told.call told.reply
IsSaid a told KeptUnseen = CancelledFirst a.entries told.key × (told.reply ≡ Cancelled)
IsSaid a told OtherEpoch = told.key.epoch ≢ a.epoch
IsSaid a told Impossible = ¬ MayBeTold told.call told.reply
IsSaid a told OtherReply = GivesOther a.entries told.key told.call told.reply
IsSaid a told OtherCall = CameOtherwise a.entries told.key told.call
IsSaid a told Waiting = WaitsWith a.entries told.key told.call
IsSaid a told NoRequest = NamesNowhere a.entries told.key
IsSaid a told NoRecord = ⊥

-- the order of findings
abbrev pub order_of : Finding → ℕ
order_of Kept = 0
order_of KeptUnseen = 0
order_of OtherEpoch = 1
order_of Impossible = 2
order_of OtherReply = 3
order_of OtherCall = 3
order_of Waiting = 3
order_of NoRequest = 3
order_of NoRecord = 3

-- the finding is true, and none before it is
pub record IsFinding (a : Account) (told : Told) (finding : Finding) : Type 0 where
  pub says : IsSaid a told finding
  pub first : (other : Finding) → order_of other < order_of finding → ¬ IsSaid a told other

-- a finding that says that the account gives the reply
abbrev pub IsKeptFinding : Finding → Type 0
IsKeptFinding finding = (finding ≡ Kept) ⊎ (finding ≡ KeptUnseen)
