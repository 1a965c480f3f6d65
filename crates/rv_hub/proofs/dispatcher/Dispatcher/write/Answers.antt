-- What each owes stays.
use Rattle.rv_hub.proofs.OfDispatcher.Opening.{written_ready}
use Rattle.rv_hub.proofs.dispatcher.Dispatcher.write.Goals as goal

pub returns-clause-ready : goal.returns-clause-ready
returns-clause-ready c =
    written_ready c.args.self.now c.release.new.self c.args.entries c.requires.ready
    c.release.ensures.releases
