-- What it owes stays.
use Rattle.rv_hub.proofs.OfDispatcher.Opening.{ended_it}
use Rattle.rv_hub.proofs.dispatcher.Dispatcher.end_input.Goals as goal

pub returns-clause-ready : goal.returns-clause-ready
returns-clause-ready c =
    (ended_it c.args.self.now c.end_input.new.self c.args.connection c.requires.ready c.requires.open_wire
    c.end_input.ensures.changes c.end_input.ensures.noted).0

pub returns-clause-ends : goal.returns-clause-ends
returns-clause-ends c =
    (ended_it c.args.self.now c.end_input.new.self c.args.connection c.requires.ready c.requires.open_wire
    c.end_input.ensures.changes c.end_input.ensures.noted).1
