-- Nobody waits, and no connection is open.
use Rattle.std.proofs.Common.{arith}
use Rattle.rv_hub.proofs.OfDispatcher.Opening.{book_at, new_ready}
use Rattle.rv_hub.proofs.dispatcher.Dispatcher.new.Goals as goal

pub returns-in-Ok-clause-ready : goal.returns-in-Ok-clause-ready
returns-in-Ok-clause-ready c =
    let more = c.max.ensures in
    let room = c.in-Ok.ensures.capacity in
    new_ready _ _ (book_at c.args.machine c.moment-latest.result c.requires.resumes c.moment-latest.ensures)
    (omega (arith, more)) c.requires.limits
    c.new-in-Ok.ensures.nobody
    c.new.ensures.none (omega (arith, room)) c.new-in-Ok-2.ensures.items
