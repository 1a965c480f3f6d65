-- What a verdict shows, the answer that it stands for, and when it was given.
use Rattle.std.specs.Prelude.{◌≡◌, ◌≤◌, ℕ, List, Option, Some, None, length}
use Rattle.rv_text.specs.declared.answer.Answer.{Answer}
use Rattle.rv_text.specs.declared.answer.Answer as answer
use Rattle.rv_session.specs.declared.kept.Kept.{Kept}
use Rattle.rv_account.specs.declared.entry.Entry.{Entry}
use Rattle.rv_text.specs.declared.message.Message.{Message}
use Rattle.rv_account.specs.Account.{Account}
pub use Rattle.rv_account.specs.Account.{item_at}
-- the reply that is kept, and that a reply carries texts
pub use Rattle.rv_book.specs.reply_cache.Keeping.{ReplyHasText, reply_of}
use Rattle.rv_book.specs.Legal.{Legal, before}
use Rattle.rv_book.specs.Steps.{Next}

-- an answer with a reply has the one that the account gives for what is kept; for all other answers nothing
-- is kept
abbrev pub IsAsKept : List Entry → Option Kept → Answer → Type 0
IsAsKept entries (Some kept) (answer.TheVariants.Replied key told) = reply_of entries kept ≡ Some told
IsAsKept entries None (answer.TheVariants.Replied key told) = ⊥
IsAsKept entries (Some kept) _ = ⊥
IsAsKept entries None _ = Unit {0}

-- the answer is a reply that carries texts
abbrev pub HasText : Answer → Type 0
HasText (answer.TheVariants.Replied key told) = ReplyHasText told
HasText _ = ⊥

-- what a verdict shows: the message that it was given for, the answer that it stands for, the number of the
-- account's entries before and after that step, and what is kept of the reply, if it is one
pub record VerdictView : Type 0 where
  pub asked : Message
  pub said : Answer
  pub before : ℕ
  pub length : ℕ
  pub kept : Option Kept

-- the stamp is that of a step from some legal account
pub record IsOfStep (v : VerdictView) : Type 0 where
  pub account : Account
  pub legal : Legal account
  pub account_has : length account.entries ≡ v.before
  pub moment : ℕ
  pub after : Account
  pub after_has : length after.entries ≡ v.length
  pub step : Next account moment v.asked after v.said

-- the stamp was given in the account: a step leads from its entries before to those after, and the account
-- has the reply of that step as the stamp keeps it
pub record WasGiven (a : Account) (v : VerdictView) : Type 0 where
  pub moment : ℕ
  pub step : Next (before a v.before) moment v.asked (before a v.length) v.said
  pub grows : v.before ≤ v.length
  pub within : v.length ≤ length a.entries
  pub says : IsAsKept a.entries v.kept v.said
