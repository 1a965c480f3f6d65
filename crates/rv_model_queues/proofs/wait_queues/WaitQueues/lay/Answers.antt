-- Who was laid in its queue or at its exchanger waits now among all who do.
use Rattle.rv_model_queues.proofs.Words.{Option, refl, sym, subst, Exchanges, Takes, Side}
use Rattle.rv_model_queues.proofs.Words.{OwedDuty, FindsNobody, AreBelow, WaitQueues, place_of}
use Rattle.rv_dual.specs.Meanings.{ParksGiver}
use Rattle.rv_dual.specs.Queue.{IsAbove}
use Rattle.rv_dual.specs.declared.giver.Offer.{Offer}
use Rattle.rv_model_queues.specs.Laying.{LaidOn, MayWaitBy}
use Rattle.rv_model_queues.specs.Views.{queue_at}
use Rattle.rv_model_queues.proofs.Laying.{exchanger_free, givers_none, laid_exchanges, laid_gives, laid_takes}
use Rattle.rv_model_queues.proofs.Laying.{place_with, takers_none}
use Rattle.rv_model_queues.proofs.Tabled.{above}
use Rattle.rv_model_queues.proofs.wait_queues.WaitQueues.lay.Goals as goal

pub lay_giver-requires-clause-nobody : goal.lay_giver-requires-clause-nobody
lay_giver-requires-clause-nobody c =
    let old : WaitQueues = record { queues = c.self.inside.queues; exchangers = c.self.inside.exchangers } in
    takers_none old c.in-Gives.queue (subst (FindsNobody old) c.in-Gives.is
    (subst (λ (s : WaitQueues). FindsNobody s c.args.side) (sym c.self.view_is) c.requires.nobody))

pub lay_giver-requires-clause-above : goal.lay_giver-requires-clause-above
lay_giver-requires-clause-above c =
    let old : WaitQueues = record { queues = c.self.inside.queues; exchangers = c.self.inside.exchangers } in
    let may = subst (λ (s : Side). MayWaitBy s c.args.place c.args.duty) c.in-Gives.is c.requires.owed in
    let below = above old c.in-Gives.queue c.args.place (subst (λ (s : WaitQueues). AreBelow s c.args.place)
    (sym c.self.view_is) c.requires.above) in
    subst (λ (o : Offer). IsAbove (queue_at c.self.inside.queues c.in-Gives.queue) (place_of o))
    (sym c.giver_of.ensures)
    (subst (IsAbove (queue_at c.self.inside.queues c.in-Gives.queue))
    (sym (place_with c.in-Gives.queue c.args.place c.args.duty may)) below)

pub lay_taker-requires-clause-nobody : goal.lay_taker-requires-clause-nobody
lay_taker-requires-clause-nobody c =
    let old : WaitQueues = record { queues = c.self.inside.queues; exchangers = c.self.inside.exchangers } in
    givers_none old c.in-Takes.queue (subst (FindsNobody old) c.in-Takes.is
    (subst (λ (s : WaitQueues). FindsNobody s c.args.side) (sym c.self.view_is) c.requires.nobody))

pub lay_taker-requires-clause-above : goal.lay_taker-requires-clause-above
lay_taker-requires-clause-above c =
    let old : WaitQueues = record { queues = c.self.inside.queues; exchangers = c.self.inside.exchangers } in
    let may = subst (λ (d : Option OwedDuty). MayWaitBy (Takes c.in-Takes.queue) c.args.place d)
    c.unwrap.ensures (subst (λ (s : Side). MayWaitBy s c.args.place c.args.duty) c.in-Takes.is
    c.requires.owed) in
    subst (IsAbove (queue_at c.self.inside.queues c.in-Takes.queue)) (sym may)
    (above old c.in-Takes.queue c.args.place (subst (λ (s : WaitQueues). AreBelow s c.args.place)
    (sym c.self.view_is) c.requires.above))

pub lay-requires-clause-free : goal.lay-requires-clause-free
lay-requires-clause-free c =
    let old : WaitQueues = record { queues = c.self.inside.queues; exchangers = c.self.inside.exchangers } in
    exchanger_free old c.in-Exchanges.exchanger (subst (FindsNobody old) c.in-Exchanges.is
    (subst (λ (s : WaitQueues). FindsNobody s c.args.side) (sym c.self.view_is) c.requires.nobody))

pub returns-in-Gives : goal.returns-in-Gives
returns-in-Gives c =
    let old : WaitQueues = record { queues = c.self.inside.queues; exchangers = c.self.inside.exchangers } in
    let new : WaitQueues = record { queues = c.lay_giver.new.self; exchangers = c.self.inside.exchangers } in
    let queue = c.in-Gives.queue in
    let may = subst (λ (s : Side). MayWaitBy s c.args.place c.args.duty) c.in-Gives.is c.requires.owed in
    let parks = subst (λ (o : Offer). ParksGiver (queue_at c.self.inside.queues queue)
    (queue_at c.lay_giver.new.self queue) o) c.giver_of.ensures c.lay_giver.ensures.laid in
    let laid = laid_gives old new queue (record { others = c.lay_giver.ensures.others; exchangers = refl })
    c.args.place c.args.duty may parks in
    subst (λ (s : WaitQueues). LaidOn s new c.args.side c.args.place c.args.duty) c.self.view_is
    (subst (λ (s : Side). LaidOn old new s c.args.place c.args.duty) (sym c.in-Gives.is) laid)

pub returns-in-Takes : goal.returns-in-Takes
returns-in-Takes c =
    let old : WaitQueues = record { queues = c.self.inside.queues; exchangers = c.self.inside.exchangers } in
    let new : WaitQueues = record { queues = c.lay_taker.new.self; exchangers = c.self.inside.exchangers } in
    let queue = c.in-Takes.queue in
    let may = subst (λ (d : Option OwedDuty). MayWaitBy (Takes queue) c.args.place d) c.unwrap.ensures
    (subst (λ (s : Side). MayWaitBy s c.args.place c.args.duty) c.in-Takes.is c.requires.owed) in
    let laid = laid_takes old new queue (record { others = c.lay_taker.ensures.others; exchangers = refl })
    c.args.place c.unwrap.result may c.lay_taker.ensures.laid in
    subst (λ (s : WaitQueues). LaidOn s new c.args.side c.args.place c.args.duty) c.self.view_is
    (subst (λ (s : Side). LaidOn old new s c.args.place c.args.duty) (sym c.in-Takes.is)
    (subst (λ (d : Option OwedDuty). LaidOn old new (Takes queue) c.args.place d) (sym c.unwrap.ensures)
    laid))

pub returns-in-Exchanges : goal.returns-in-Exchanges
returns-in-Exchanges c =
    let old : WaitQueues = record { queues = c.self.inside.queues; exchangers = c.self.inside.exchangers } in
    let new : WaitQueues = record { queues = c.self.inside.queues; exchangers = c.lay.new.self } in
    let exchanger = c.in-Exchanges.exchanger in
    let duty_is = c.unwrap-in-Exchanges.ensures in
    let nobody = subst (FindsNobody old) c.in-Exchanges.is
    (subst (λ (s : WaitQueues). FindsNobody s c.args.side) (sym c.self.view_is) c.requires.nobody) in
    let may = subst (λ (d : Option OwedDuty). MayWaitBy (Exchanges exchanger) c.args.place d) duty_is
    (subst (λ (s : Side). MayWaitBy s c.args.place c.args.duty) c.in-Exchanges.is c.requires.owed) in
    let laid = laid_exchanges old new exchanger (record { others = c.lay.ensures.others; queues = refl })
    c.args.place c.unwrap-in-Exchanges.result may (exchanger_free old exchanger nobody) c.lay.ensures.laid in
    subst (λ (s : WaitQueues). LaidOn s new c.args.side c.args.place c.args.duty) c.self.view_is
    (subst (λ (s : Side). LaidOn old new s c.args.place c.args.duty) (sym c.in-Exchanges.is)
    (subst (λ (d : Option OwedDuty). LaidOn old new (Exchanges exchanger) c.args.place d) (sym duty_is)
    laid))
