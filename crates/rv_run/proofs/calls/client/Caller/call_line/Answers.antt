-- A call that was settled, and whose reply's text found no memory.
use Rattle.rv_client.specs.Link.{link}
use Rattle.rv_run.proofs.OfCalls.Settling.{lacks_text}
use Rattle.rv_run.proofs.calls.client.Caller.call_line.Goals as goal

pub returns-in_err-reply_text-in-Settled-clause-halted :
    goal.returns-in_err-reply_text-in-Settled-clause-halted
returns-in_err-reply_text-in-Settled-clause-halted g c =
    lacks_text g.R.Read.remaining g.W.Write.contents c.args.self.tries c.in_ok-asked.asked c.args.line.now
    c.in-Settled.next c.in-Settled.reply (link c.args.from.now c.args.to.now)
    (link c.call.new.source c.call.new.sink) c.from_residual-in_err-reply_text-in-Settled.result
    c.args.idle c.in_ok-asked.ensures.says c.in-Settled.ensures
    c.from_residual-in_err-reply_text-in-Settled.ensures.1
