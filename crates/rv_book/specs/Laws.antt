-- The laws of accounts, replies and steps, over the definitions alone.
use Rattle.std.specs.Prelude.{◌≡◌, ℕ}
use Rattle.rv_text.specs.declared.message.Key.{Key}
use Rattle.rv_text.specs.declared.answer.Reply.{Reply}
use Rattle.rv_account.specs.Account.{Account, Extends}
use Rattle.rv_account.specs.rules.StepLimits.{book_limits}
use Rattle.rv_account.specs.state.StepLaws.{CancelsCanEnterUnder, HellosCanEnterUnder, OneNextUnder}
use Rattle.rv_account.specs.state.StepLaws.{RequestsCanEnterUnder, StepsExtendUnder}
use Rattle.rv_book.specs.Legal.{Legal}
use Rattle.rv_book.specs.Replies.{HasReply}
use Rattle.rv_book.specs.Steps.{Ticks, step_moment}
use Rattle.rv_book.specs.Order.{InOrder}
use Rattle.rv_book.specs.Verdicts.{VerdictView, WasGiven}

-- a reply that stands in a legal account stands in every legal account that extends it, and no other does
abbrev pub RepliesStay : Type 0
RepliesStay = (a b : Account) (key : Key) (reply : Reply) → Legal a → Legal b → Extends a b
    → HasReply a.entries key reply
    → HasReply b.entries key reply × ((other : Reply) → HasReply b.entries key other → other ≡ reply)

-- in each legal account the time-outs of a step lead to an account, which is legal
abbrev pub TicksCanEnter : Type 0
TicksCanEnter = (a : Account) (now : ℕ) → Legal a
    → (b : Account) × Ticks a (step_moment a now) b × Legal b

-- in a legal account the items of each queue leave in their order of arrival
abbrev pub ItemsLeaveInOrder : Type 0
ItemsLeaveInOrder = (a : Account) → Legal a → InOrder a.entries

-- a verdict that was given in an account was given in every account that extends it
abbrev pub VerdictsStay : Type 0
VerdictsStay = (a b : Account) (v : VerdictView) → Extends a b → WasGiven a v → WasGiven b v

-- ---- a step under a book's limits

-- after the time-outs of a step, where no refusal of a request is due, a repeat has its answer, or a legal
-- account with the request's entry and its answer exists
abbrev pub RequestsCanEnter : Type 0
RequestsCanEnter = RequestsCanEnterUnder book_limits

-- after the time-outs of a step, where no refusal of a hello is due and it is no repeat, a legal account with
-- its entry exists
abbrev pub HellosCanEnter : Type 0
HellosCanEnter = HellosCanEnterUnder book_limits

-- after the time-outs of a step, where no refusal of a cancel is due, a settled request has its answer, or a
-- legal account with the cancel's entry exists, after which its request is cancelled
abbrev pub CancelsCanEnter : Type 0
CancelsCanEnter = CancelsCanEnterUnder book_limits

-- a step only adds to the account
abbrev pub StepsExtend : Type 0
StepsExtend = StepsExtendUnder book_limits

-- a step leaves no choice, want of memory aside: one account after it and one answer
abbrev pub OneNext : Type 0
OneNext = OneNextUnder book_limits
