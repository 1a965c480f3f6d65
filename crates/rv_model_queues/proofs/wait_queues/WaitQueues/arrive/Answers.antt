-- What the arrival did in its queue or at its exchanger is what it did to all who wait.
use Rattle.rv_model_queues.proofs.Words.{◌∙◌, Some, refl, sym, subst, Exchanges, Gives, Takes, side_of}
use Rattle.rv_model_queues.proofs.Words.{wait_of, ArrivedOn, AreBelow, WaitQueues}
use Rattle.rv_model_queues.specs.Meeting.{HasRoomOn}
use Rattle.rv_model_queues.proofs.Exchanging.{arrived_exchanges}
use Rattle.rv_model_queues.proofs.Parking.{room_to_give, room_to_take}
use Rattle.rv_model_queues.proofs.Tabled.{above, arrived_gives, arrived_takes}
use Rattle.rv_model_queues.proofs.wait_queues.WaitQueues.arrive.Goals as goal

pub give-requires-clause-above : goal.give-requires-clause-above
give-requires-clause-above c =
    let old : WaitQueues = record { queues = c.self.inside.queues; exchangers = c.self.inside.exchangers } in
    above old c.in-Gives.queue c.args.duty.place (subst (λ (s : WaitQueues). AreBelow s c.args.duty.place)
    (sym c.self.view_is) c.requires.above)

pub receive-requires-clause-above : goal.receive-requires-clause-above
receive-requires-clause-above c =
    let old : WaitQueues = record { queues = c.self.inside.queues; exchangers = c.self.inside.exchangers } in
    above old c.in-Takes.queue c.args.duty.place (subst (λ (s : WaitQueues). AreBelow s c.args.duty.place)
    (sym c.self.view_is) c.requires.above)

pub give-requires-clause-room : goal.give-requires-clause-room
give-requires-clause-room c =
    let old : WaitQueues = record { queues = c.self.inside.queues; exchangers = c.self.inside.exchangers } in
    room_to_give old c.in-Gives.queue c.wait.result
    (subst (λ w. HasRoomOn old (Gives c.in-Gives.queue) w) (sym c.wait.ensures)
    (subst (λ s. HasRoomOn old s (wait_of c.args.call.now)) (sym c.side.ensures ∙ c.in-Gives.is)
    (subst (λ (s : WaitQueues). HasRoomOn s (side_of c.args.call.now) (wait_of c.args.call.now))
    (sym c.self.view_is) c.requires.room)))

pub receive-requires-clause-room : goal.receive-requires-clause-room
receive-requires-clause-room c =
    let old : WaitQueues = record { queues = c.self.inside.queues; exchangers = c.self.inside.exchangers } in
    room_to_take old c.in-Takes.queue (Some c.unwrap.result)
    (subst (λ w. HasRoomOn old (Takes c.in-Takes.queue) w)
    (sym (sym c.unwrap.ensures ∙ c.wait-in-Takes.ensures))
    (subst (λ s. HasRoomOn old s (wait_of c.args.call.now)) (sym c.side.ensures ∙ c.in-Takes.is)
    (subst (λ (s : WaitQueues). HasRoomOn s (side_of c.args.call.now) (wait_of c.args.call.now))
    (sym c.self.view_is) c.requires.room)))

pub returns-in-Gives : goal.returns-in-Gives
returns-in-Gives c =
    let old : WaitQueues = record { queues = c.self.inside.queues; exchangers = c.self.inside.exchangers } in
    let new : WaitQueues = record { queues = c.give.new.self; exchangers = c.self.inside.exchangers } in
    let queue = c.in-Gives.queue in
    let arrived = arrived_gives old new queue (record { others = c.give.ensures.others; exchangers = refl })
    c.args.duty c.wait.result c.give.result c.give.ensures.gave in
    subst (λ (s : WaitQueues). ArrivedOn s new (side_of c.args.call.now) (wait_of c.args.call.now) c.args.duty
    c.give.result) c.self.view_is
    (subst (λ s. ArrivedOn old new s (wait_of c.args.call.now) c.args.duty c.give.result)
    (sym (sym c.side.ensures ∙ c.in-Gives.is))
    (subst (λ w. ArrivedOn old new (Gives queue) w c.args.duty c.give.result) c.wait.ensures arrived))

pub returns-in-Takes : goal.returns-in-Takes
returns-in-Takes c =
    let old : WaitQueues = record { queues = c.self.inside.queues; exchangers = c.self.inside.exchangers } in
    let new : WaitQueues = record { queues = c.receive.new.self; exchangers = c.self.inside.exchangers } in
    let queue = c.in-Takes.queue in
    let arrived = arrived_takes old new queue (record {
      others = c.receive.ensures.others;
      exchangers =
          refl;
    }) c.args.duty c.unwrap.result c.receive.result c.receive.ensures.took in
    subst (λ (s : WaitQueues). ArrivedOn s new (side_of c.args.call.now) (wait_of c.args.call.now) c.args.duty
    c.receive.result) c.self.view_is
    (subst (λ s. ArrivedOn old new s (wait_of c.args.call.now) c.args.duty c.receive.result)
    (sym (sym c.side.ensures ∙ c.in-Takes.is))
    (subst (λ w. ArrivedOn old new (Takes queue) w c.args.duty c.receive.result) (sym c.unwrap.ensures
    ∙ c.wait-in-Takes.ensures) arrived))

pub returns-in-Exchanges : goal.returns-in-Exchanges
returns-in-Exchanges c =
    let old : WaitQueues = record { queues = c.self.inside.queues; exchangers = c.self.inside.exchangers } in
    let new : WaitQueues = record { queues = c.self.inside.queues; exchangers = c.exchange.new.self } in
    let exchanger = c.in-Exchanges.exchanger in
    let arrived = arrived_exchanges old new exchanger (record {
      others = c.exchange.ensures.others;
      queues =
          refl;
    }) c.unwrap-in-Exchanges.result c.args.duty c.exchange.result c.exchange.ensures.exchanged in
    subst (λ (s : WaitQueues). ArrivedOn s new (side_of c.args.call.now) (wait_of c.args.call.now) c.args.duty
    c.exchange.result) c.self.view_is
    (subst (λ s. ArrivedOn old new s (wait_of c.args.call.now) c.args.duty c.exchange.result)
    (sym (sym c.side.ensures ∙ c.in-Exchanges.is))
    (subst (λ w. ArrivedOn old new (Exchanges exchanger) w c.args.duty c.exchange.result)
    (sym c.unwrap-in-Exchanges.ensures ∙ c.wait-in-Exchanges.ensures) arrived))
