-- Who was taken out of a queue left its side.
use Rattle.rv_model_queues.proofs.Words.{refl, sym, subst, Gives, Takes, WaitQueues}
use Rattle.rv_model_queues.specs.Meeting.{Withdrew}
use Rattle.rv_model_queues.proofs.Withdrawn.{left_givers, left_takers}
use Rattle.rv_model_queues.proofs.wait_queues.WaitQueues.withdraw.Goals as goal

pub returns-in-Gives : goal.returns-in-Gives
returns-in-Gives c =
    let old : WaitQueues = record { queues = c.self.inside.queues; exchangers = c.self.inside.exchangers } in
    let new : WaitQueues = record { queues = c.withdraw.new.self; exchangers = c.self.inside.exchangers } in
    let w = c.withdraw.ensures in
    subst (λ s. Withdrew c.args.self.now new s c.args.place c.withdraw.result) (sym c.in-Gives.is)
    (subst (λ (s : WaitQueues). Withdrew s new (Gives c.in-Gives.queue) c.args.place c.withdraw.result)
    c.self.view_is
    (λ owed duty parked stands is_owed. left_givers old new c.in-Gives.queue
    (record { others = w.others; exchangers = refl }) c.args.place c.withdraw.result w.withdrew owed duty
    parked is_owed stands))

pub returns-in-Takes : goal.returns-in-Takes
returns-in-Takes c =
    let old : WaitQueues = record { queues = c.self.inside.queues; exchangers = c.self.inside.exchangers } in
    let new : WaitQueues = record {
      queues = c.withdraw-in-Takes.new.self;
      exchangers = c.self.inside.exchangers;
    } in
    let w = c.withdraw-in-Takes.ensures in
    subst (λ s. Withdrew c.args.self.now new s c.args.place c.withdraw-in-Takes.result) (sym c.in-Takes.is)
    (subst (λ (s : WaitQueues). Withdrew s new (Takes c.in-Takes.queue) c.args.place
    c.withdraw-in-Takes.result)
    c.self.view_is
    (λ owed duty parked stands is_owed. left_takers old new c.in-Takes.queue
    (record { others = w.others; exchangers = refl }) c.args.place c.withdraw-in-Takes.result w.withdrew
    owed duty parked is_owed stands))
