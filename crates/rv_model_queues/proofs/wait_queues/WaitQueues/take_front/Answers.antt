-- The first item of the queue left it, and all others who wait stay.
use Rattle.rv_model_queues.proofs.Words.{refl, sym, subst, Gives, WaitQueues}
use Rattle.rv_model_queues.specs.Meeting.{LeftFront, TakenFor}
use Rattle.rv_model_queues.proofs.Tabled.{front_left}
use Rattle.rv_model_queues.proofs.wait_queues.WaitQueues.take_front.Goals as goal

pub returns-in-Takes : goal.returns-in-Takes
returns-in-Takes c =
    let old : WaitQueues = record { queues = c.self.inside.queues; exchangers = c.self.inside.exchangers } in
    let new : WaitQueues = record { queues = c.take_front.new.self; exchangers = c.self.inside.exchangers } in
    let queue = c.in-Takes.queue in
    subst (λ s. TakenFor c.args.self.now new s c.take_front.result) (sym c.in-Takes.is)
    (subst (λ (s : WaitQueues). LeftFront s new (Gives queue) c.take_front.result) c.self.view_is
    (front_left old new queue (record { others = c.take_front.ensures.others; exchangers = refl })
    c.take_front.result c.take_front.ensures.front))
