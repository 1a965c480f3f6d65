-- The law, from the time-outs of a legal account at whatever moment is not before its own.
use Rattle.rv_book.proofs.Words.{arith, step_moment}
use Rattle.rv_account.proofs.OfState.StateLaws.{ticks_step}
use Rattle.rv_book.proofs.laws.ticks_can_enter.Goals as goal

pub returns : goal.returns
returns c = λ a now legal.
    let found = ticks_step a (step_moment a now) legal (omega arith) in
    (found.after, found.ticks, found.is.legal)
