-- What changed and the entries are let go.
use Rattle.std.proofs.Common.{arith}
use Rattle.rv_hub.proofs.OfDispatcher.Opening.{begun_ready}
use Rattle.rv_hub.proofs.dispatcher.Dispatcher.begin.Goals as goal

pub returns-clause-ready : goal.returns-clause-ready
returns-clause-ready c =
    let room = c.requires.room in
    let kept = c.clear.ensures.capacity in
    begun_ready c.args.self.now c.clear_changed.new.self c.clear.new.self c.requires
    c.clear_changed.ensures.same
    (omega (arith, room, kept))
