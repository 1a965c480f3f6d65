-- What became of the request with a key, by the account alone.
use Rattle.std.specs.Prelude.{◌≡◌, ◌⊎◌, ℕ, List, Some}
use Rattle.rv_text.specs.declared.message.Key.{Key}
use Rattle.rv_text.specs.declared.call.Call.{Call}
use Rattle.rv_text.specs.declared.answer.Reply.{Reply}
use Rattle.rv_text.specs.declared.answer.Reply.TheVariants.{Cancelled}
use Rattle.rv_account.specs.Account.{key_at}
use Rattle.rv_account.specs.declared.entry.Entry.{Entry}
use Rattle.rv_account.specs.rules.Replies.{CancelledFirst}
use Rattle.rv_account.specs.state.Agreement.{HasReplied, WaitsThere}
use Rattle.rv_replies.specs.declared.findings.fate.Fate.{Fate}
use Rattle.rv_replies.specs.declared.findings.fate.Fate.TheVariants.{CancelledUnseen, RepliedTo, Unnamed}
use Rattle.rv_replies.specs.declared.findings.fate.Fate.TheVariants.{Waits}

-- no entry names the key
abbrev pub NamesNowhere : List Entry → Key → Type 0
NamesNowhere entries key = (place : ℕ) → key_at entries place ≡ Some key → ⊥

-- the request with this key came with this call, and waits
abbrev pub WaitsWith : List Entry → Key → Call → Type 0
WaitsWith entries key call = (place : ℕ) × WaitsThere entries key place call

-- the entries give the key this reply, and its request came with this call, or was cancelled before it came
abbrev pub GivesReply : List Entry → Key → Call → Reply → Type 0
GivesReply entries key call reply =
    HasReplied entries key call reply ⊎ (CancelledFirst entries key × (reply ≡ Cancelled))

-- this became of the request with the key
abbrev pub IsFateOf : List Entry → Key → Fate → Type 0
IsFateOf entries key Unnamed = NamesNowhere entries key
IsFateOf entries key (Waits call) = WaitsWith entries key call
IsFateOf entries key (RepliedTo call reply) = HasReplied entries key call reply
IsFateOf entries key CancelledUnseen = CancelledFirst entries key
