-- What is taken out is put back.
use Rattle.rv_world.proofs.OfParts.TableWrites.{put_back, taken_stands}
use Rattle.rv_world.proofs.parts.clients.Clients.say.Goals as goal

pub rest-requires : goal.rest-requires
rest-requires c = taken_stands c.args.self.now c.args.client c.wake-outstanding.ensures.request
    c.wake-outstanding.ensures.after

pub returns-clause-stays : goal.returns-clause-stays
returns-clause-stays c = put_back c.args.self.now c.args.client c.wake-outstanding.ensures.request
    c.wake-outstanding.ensures.after c.rest.ensures
