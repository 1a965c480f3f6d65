-- It holds of all wires.
use Rattle.rv_hub.proofs.OfDispatcher.Noting.{held_back_in}
use Rattle.rv_hub.proofs.dispatcher.Dispatcher.wires.Goals as goal

pub returns-clause-held_back : goal.returns-clause-held_back
returns-clause-held_back c = held_back_in c.args.self.now.wires
