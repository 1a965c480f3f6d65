-- The laws of kept replies, of findings, and of the replies that a call may get.
use Rattle.std.specs.Prelude.{◌≡◌, ◌↔◌, ℕ, List, Some}
use Rattle.rv_text.specs.declared.call.Call.{Call}
use Rattle.rv_text.specs.declared.message.Key.{Key}
use Rattle.rv_text.specs.declared.answer.Reply.{Reply}
use Rattle.rv_account.specs.Account.{Account, act_at}
use Rattle.rv_account.specs.declared.entry.Act.TheVariants.{Arrive}
use Rattle.rv_account.specs.declared.entry.Entry.{Entry}
use Rattle.rv_account.specs.rules.Legal.{Legal}
use Rattle.rv_account.specs.rules.Replies.{CancelledFirst, HasReply}
use Rattle.rv_replies.specs.findings.Fates.{GivesReply}
use Rattle.rv_replies.specs.declared.findings.Told.{Told}
use Rattle.rv_replies.specs.declared.findings.Finding.{Finding}
use Rattle.rv_replies.specs.declared.findings.Finding.TheVariants.{Kept, KeptUnseen}
use Rattle.rv_replies.specs.findings.Findings.{IsFinding, IsKeptFinding, MayBeTold}

-- the request with this key came with this call
abbrev pub CameWith : List Entry → Key → Call → Type 0
CameWith entries key call = (place : ℕ) × (act_at entries place ≡ Some (Arrive key call))

-- a reply is kept exactly if it is its key's in the account, and its request came with that call, or, as a
-- finding of its own, was cancelled before it came
pub record KeptIsTold : Type 0 where
  pub came : (a : Account) (told : Told) → Legal a → IsFinding a told Kept
      ↔ (HasReply a.entries told.key told.reply × CameWith a.entries told.key told.call)
  pub unseen : (a : Account) (told : Told) → Legal a → IsFinding a told KeptUnseen
      ↔ (HasReply a.entries told.key told.reply × CancelledFirst a.entries told.key)

-- a key has one kept reply
abbrev pub OneKept : Type 0
OneKept = (a : Account) (told other : Told) (one also : Finding) → Legal a → IsFinding a told one
    → IsFinding a other also → IsKeptFinding one → IsKeptFinding also → told.key ≡ other.key
    → told.reply ≡ other.reply

-- a reply has one finding
abbrev pub OneFinding : Type 0
OneFinding = (a : Account) (told : Told) (one other : Finding) → Legal a → IsFinding a told one
    → IsFinding a told other → one ≡ other

-- a reply that a legal account gives is one that its request may get
abbrev pub GivenMayBeTold : Type 0
GivenMayBeTold = (a : Account) (key : Key) (call : Call) (reply : Reply) → Legal a
    → GivesReply a.entries key call reply → MayBeTold call reply
