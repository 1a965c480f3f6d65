-- For private clauses: the findings that follow from what became of a request.
use Rattle.std.specs.Prelude.{◌≡◌, ◌≢◌, ◌⊎◌}
use Rattle.rv_text.specs.declared.answer.Reply.TheVariants.{Cancelled}
use Rattle.rv_text.specs.declared.call.Call.{Call}
use Rattle.rv_replies.specs.declared.findings.fate.Fate.{Fate}
use Rattle.rv_replies.specs.declared.findings.fate.Fate.TheVariants.{CancelledUnseen, RepliedTo, Unnamed}
use Rattle.rv_replies.specs.declared.findings.fate.Fate.TheVariants.{Waits}
use Rattle.rv_replies.specs.declared.findings.Told.{Told}
use Rattle.rv_replies.specs.declared.findings.Finding.{Finding}
use Rattle.rv_replies.specs.declared.findings.Finding.TheVariants.{Kept, KeptUnseen, NoRequest}
use Rattle.rv_replies.specs.declared.findings.Finding.TheVariants.{OtherCall, OtherReply, Waiting}

-- the request got that reply, with that call, or was cancelled before it came
abbrev pub TellsSame : Told → Fate → Type 0
TellsSame told Unnamed = ⊥
TellsSame told (Waits call) = ⊥
TellsSame told (RepliedTo call reply) = (call ≡ told.call) × (reply ≡ told.reply)
TellsSame told CancelledUnseen = told.reply ≡ Cancelled

-- the finding on a reply that is kept, by what became of its request
abbrev pub kept_by : Fate → Finding
kept_by Unnamed = Kept
kept_by (Waits call) = Kept
kept_by (RepliedTo call reply) = Kept
kept_by CancelledUnseen = KeptUnseen

-- the finding for a request that came with this call: the given one, if that is the call of the reply
abbrev pub IsByCall : Told → Call → Finding → Finding → Type 0
IsByCall told call same finding =
    ((call ≡ told.call) × (finding ≡ same)) ⊎ ((call ≢ told.call) × (finding ≡ OtherCall))

-- the finding by what became of the request, if it didn't get that reply
abbrev pub SaidInstead : Told → Fate → Finding → Type 0
SaidInstead told Unnamed finding = finding ≡ NoRequest
SaidInstead told (Waits call) finding = IsByCall told call Waiting finding
SaidInstead told (RepliedTo call reply) finding = IsByCall told call OtherReply finding
SaidInstead told CancelledUnseen finding = finding ≡ OtherReply
