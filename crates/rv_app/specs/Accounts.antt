-- What is written of an account, for each outcome of the writing.
use Rattle.std.specs.Prelude.{ℕ, ◌≡◌, ◌<◌, true, IfErr, List, OnOk, Option, Result, length, take}
use Rattle.rv_frame.specs.declared.sink.Sink.{Sink}
use Rattle.rv_frame.specs.Sink.{SinkTakes, sink_failed}
use Rattle.rv_account.specs.Account.{Account}
use Rattle.rv_book.specs.Legal.{Legal}
use Rattle.rv_book.specs.Limits.{FitsAccount}
use Rattle.rv_book.specs.lines.Lines.{printed_lines}
use Rattle.rv_book.specs.lines.Written.{account_lines}
use Rattle.rv_run.specs.declared.fault.RunFault.{RunFault}
use Rattle.rv_run.specs.declared.fault.RunFault.TheVariants.{NoMemory, ReadFault, TooLong, WriteFault}

module _ {W : Type 0} (contents : W → Option (List ℕ)) where
  -- the sink took exactly the account's lines
  pub record WritesAll (a : Account) (old new : Sink W) : Type 0 where
    pub went_out : SinkTakes contents old new (printed_lines (account_lines a))
    pub sink_stays : sink_failed new ≡ sink_failed old

  -- a write failed: the sink took exactly this many bytes of the account's lines, and not all
  pub record WritesFront (a : Account) (old new : Sink W) (sent : ℕ) : Type 0 where
    pub not_all : sent < length (printed_lines (account_lines a))
    pub went_out : SinkTakes contents old new (take sent (printed_lines (account_lines a)))
    pub sink_fails : sink_failed new ≡ true

  -- the sink took exactly some first lines of the account, whole, and not all
  pub record WritesSome (a : Account) (old new : Sink W) : Type 0 where
    pub count : ℕ
    pub not_all : count < length (account_lines a)
    pub went_out : SinkTakes contents old new (printed_lines (take count (account_lines a)))
    pub sink_stays : sink_failed new ≡ sink_failed old

  -- not all lines went out, for this fault; no other comes
  abbrev pub StopsWriting : Account → Sink W → Sink W → RunFault → Type 0
  StopsWriting a old new ReadFault = ⊥
  StopsWriting a old new (WriteFault fault) = WritesFront a old new fault.sent
  StopsWriting a old new NoMemory = WritesSome a old new
  StopsWriting a old new TooLong = ⊥

  -- a server ended: an account of this epoch that was opened at this moment, which is legal and keeps the
  -- limits, was written, or its writing stopped
  pub record EndsWithAccount {T : Type 0} (epoch moment : ℕ) (old new : Sink W) (written : Result T RunFault)
      : Type 0 where
    pub account : Account
    pub of_epoch : account.epoch ≡ epoch
    pub opened_at : account.opened ≡ moment
    pub legal : Legal account
    pub fits : FitsAccount account
    pub all : OnOk written (WritesAll account old new)
    pub stopped : IfErr written (StopsWriting account old new)
