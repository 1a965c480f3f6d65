-- It waits no more.
use Rattle.rv_hub.proofs.OfDispatcher.Opening.{closed_ready, closed_steady, closes_it}
use Rattle.rv_hub.proofs.dispatcher.Dispatcher.shut.Goals as goal

pub returns-clause-ready : goal.returns-clause-ready
returns-clause-ready c =
    closed_ready c.args.self.now c.close.new.self c.remove.new.self c.args.connection c.close.ensures.closed
    c.remove.ensures.removed

pub returns-clause-steady : goal.returns-clause-steady
returns-clause-steady c =
    closed_steady c.args.self.now c.close.new.self c.remove.new.self c.args.connection c.close.ensures.closed
    c.remove.ensures.removed

pub returns-clause-closes : goal.returns-clause-closes
returns-clause-closes c =
    closes_it c.args.self.now c.close.new.self c.remove.new.self c.args.connection c.close.ensures.closed
    c.remove.ensures.removed c.requires.open_wire (c.close.ensures.noted c.requires.open_wire)
