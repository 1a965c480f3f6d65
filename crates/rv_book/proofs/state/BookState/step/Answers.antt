-- First what is due is timed out, and then the message takes its own step.
use Rattle.rv_book.proofs.Words.{subst, Ticks, account_of}
use Rattle.rv_book.specs.Operations.{Becomes}
use Rattle.rv_book.proofs.state.BookState.step.Goals as goal

pub returns-clause-step : goal.returns-clause-step
returns-clause-step c =
    let a = account_of c.args.self.now in
    let mid = account_of c.time_out-moment.new.self in
    let exact = c.time_out-moment.ensures.exact in
    record {
      ticked = mid;
      ticks = subst (λ moment. Ticks a moment mid) exact c.time_out-moment.ensures.ticks;
      fits = c.time_out-moment.ensures.quiet.sound.fits;
      becomes = subst (λ moment. Becomes mid moment c.args.message (account_of c.answer.new.self)
          c.answer.result) exact c.answer.ensures.step;
    }
