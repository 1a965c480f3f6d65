-- It is what holds of the slots.
use Rattle.rv_server_connections.proofs.Tallying.{all_held_back}
use Rattle.rv_server_connections.proofs.noted.Noted.get.Goals as goal

pub returns-clause-held_back : goal.returns-clause-held_back
returns-clause-held_back c = all_held_back c.args.self.now c.requires
