-- The new connection owes nothing.
use Rattle.rv_hub.proofs.OfDispatcher.Opening.{maybe_opened}
use Rattle.rv_hub.proofs.dispatcher.Dispatcher.open.Goals as goal

pub returns-clause-ready : goal.returns-clause-ready
returns-clause-ready c =
    maybe_opened c.args.self.now c.open.new.self c.open.result c.requires c.open.ensures.opened
    c.open.ensures.refused
