-- What it owes stays.
use Rattle.rv_hub.proofs.OfDispatcher.Opening.{left_it}
use Rattle.rv_hub.proofs.dispatcher.Dispatcher.took.Goals as goal

pub returns-clause-ready : goal.returns-clause-ready
returns-clause-ready c =
    (left_it c.args.self.now c.took.new.self c.args.connection c.args.count c.requires.ready
    c.requires.offered
    c.took.ensures.changes c.took.ensures.noted).0

pub returns-clause-leaves : goal.returns-clause-leaves
returns-clause-leaves c =
    (left_it c.args.self.now c.took.new.self c.args.connection c.args.count c.requires.ready
    c.requires.offered
    c.took.ensures.changes c.took.ensures.noted).1
