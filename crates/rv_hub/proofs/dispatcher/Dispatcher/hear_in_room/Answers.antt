-- A step, its answer, and all whom it settled.
use Rattle.rv_hub.proofs.OfDispatcher.Striding.{strided}
use Rattle.rv_hub.proofs.dispatcher.Dispatcher.hear_in_room.Goals as goal

pub returns : goal.returns
returns c =
    let both = strided c.args.self.now c.step-said.new.self c.say.new.self c.tell_settled.new.self
    c.args.connection c.args.message c.step-said.result c.requires.asked.0 c.requires.steady
    c.requires.asked.1 c.requires.asked.2 c.step-said.ensures.steps c.step-said.ensures.still
    c.say.ensures.says c.tell_settled.ensures.sound c.tell_settled.ensures.tells in
    record { steady = both.0; strides = both.1 }
