-- The laws of steps of accounts under any limits, and of time-outs alone: they only add and leave no choice,
-- and what isn't refused can enter.
use Rattle.std.specs.Prelude.{◌≡◌, ◌≢◌, ℕ}
use Rattle.rv_text.specs.declared.version.Version.{Version}
use Rattle.rv_text.specs.declared.message.Key.{Key}
use Rattle.rv_text.specs.declared.call.Call.{Call}
use Rattle.rv_text.specs.declared.message.Message.{Message}
use Rattle.rv_text.specs.declared.answer.Answer.{Answer}
use Rattle.rv_text.specs.declared.answer.Answer.TheVariants.{Refused, Replied}
use Rattle.rv_text.specs.declared.answer.Reply.TheVariants.{Cancelled}
use Rattle.rv_text.specs.declared.answer.Refusal.TheVariants.{NoMemory}
use Rattle.rv_account.specs.declared.entry.Act.TheVariants.{Hello, Arrive, Cancel}
use Rattle.rv_account.specs.Account.{Account, Extends}
use Rattle.rv_account.specs.rules.Legal.{Legal}
use Rattle.rv_account.specs.rules.StepLimits.{StepLimits}
use Rattle.rv_account.specs.rules.Steps.{Adds, Answers, CancelLinesUnder, HelloLinesUnder, NextUnder, Replies}
use Rattle.rv_account.specs.rules.Steps.{RequestLinesUnder, Ticks, step_moment}

-- ---- what a step leaves

-- a step only adds to the account
abbrev pub StepsExtendUnder : StepLimits → Type 0
StepsExtendUnder limits = (a b : Account) (now : ℕ) (m : Message) (x : Answer) → NextUnder limits a now m b x
    → Extends a b

-- so do time-outs alone
abbrev pub TicksExtend : Type 0
TicksExtend = (a b : Account) (moment : ℕ) → Ticks a moment b → Extends a b

-- a step leaves no choice, want of memory aside: one account after it and one answer
abbrev pub OneNextUnder : StepLimits → Type 0
OneNextUnder limits = (a b c : Account) (now : ℕ) (m : Message) (x y : Answer) → NextUnder limits a now m b x
    → NextUnder limits a now m c y → x ≢ Refused NoMemory → y ≢ Refused NoMemory → (b ≡ c) × (x ≡ y)

-- nor do time-outs alone
abbrev pub OneTicked : Type 0
OneTicked = (a b c : Account) (moment : ℕ) → Ticks a moment b → Ticks a moment c → b ≡ c

-- ---- what can enter

-- a legal account exists with the request's entry, and with the answer to the request: its reply, or that it
-- waits
pub record CanEnter (a : Account) (moment : ℕ) (key : Key) (call : Call) : Type 0 where
  pub after : Account
  pub answer : Answer
  pub adds : Adds a moment (Arrive key call) after
  pub answers : Answers after key answer

-- after the time-outs of a step, where no refusal of a request is due, a repeat has its answer, or a legal
-- account with the request's entry and its answer exists
abbrev pub RequestsCanEnterUnder : StepLimits → Type 0
RequestsCanEnterUnder limits = (before a : Account) (now : ℕ) (key : Key) (call : Call) → Legal before
    → Ticks before (step_moment before now) a
    → RequestLinesUnder limits a key call (λ refusal. Unit {0}) ((x : Answer) × Answers a key x)
    (CanEnter a (step_moment before now) key call)

-- after the time-outs of a step, where no refusal of a hello is due and it is no repeat, a legal account with
-- its entry exists
abbrev pub HellosCanEnterUnder : StepLimits → Type 0
HellosCanEnterUnder limits = (before a : Account) (now client incarnation : ℕ) (version : Version)
    → Legal before → Ticks before (step_moment before now) a
    → HelloLinesUnder limits a client incarnation version (λ refusal. Unit {0}) (Unit {0})
    ((b : Account) × Adds a (step_moment before now) (Hello client incarnation version) b)

-- a legal account with the cancel's entry exists, and with it the reply of its request
pub record CanCancel (a : Account) (moment : ℕ) (key : Key) : Type 0 where
  pub after : Account
  pub adds : Adds a moment (Cancel key) after
  pub replies : Replies after key (Replied key Cancelled)

-- after the time-outs of a step, where no refusal of a cancel is due, a settled request has its answer, or a
-- legal account with the cancel's entry exists, after which its request is cancelled
abbrev pub CancelsCanEnterUnder : StepLimits → Type 0
CancelsCanEnterUnder limits = (before a : Account) (now : ℕ) (key : Key) → Legal before
    → Ticks before (step_moment before now) a
    → CancelLinesUnder limits a key (λ refusal. Unit {0}) (CanCancel a (step_moment before now) key)
    ((x : Answer) × Replies a key x) (CanCancel a (step_moment before now) key)
