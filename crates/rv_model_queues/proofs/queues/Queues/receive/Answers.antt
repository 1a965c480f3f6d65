-- What a taker did to its queue it did to the table.
use Rattle.rv_model_queues.proofs.Words.{Queue, Some, arith, subst}
use Rattle.rv_dual.specs.Queue.{IsAbove}
use Rattle.rv_model_queues.specs.Meeting.{HasRoomToTake, Took}
use Rattle.rv_model_queues.specs.Views.{empty_queue}
use Rattle.rv_model_queues.proofs.Slots.{changed, given, only_changed}
use Rattle.rv_model_queues.proofs.queues.Queues.receive.Goals as goal

pub receive-requires-clause-room : goal.receive-requires-clause-room
receive-requires-clause-room c =
    subst (λ (q : Queue). HasRoomToTake q (Some c.args.wait))
    (given c.self.inside.queues.items _ c.args.queue empty_queue c.index_mut.result.now c.index_mut.result.now
    c.self.view_is (omega (arith, c.self.invariant, c.requires.fits)) c.index_mut.ensures.value)
    c.requires.room

pub receive-requires-clause-above : goal.receive-requires-clause-above
receive-requires-clause-above c =
    subst (λ (q : Queue). IsAbove q c.args.duty.place)
    (given c.self.inside.queues.items _ c.args.queue empty_queue c.index_mut.result.now c.index_mut.result.now
    c.self.view_is (omega (arith, c.self.invariant, c.requires.fits)) c.index_mut.ensures.value)
    c.requires.above

pub returns-clause-took : goal.returns-clause-took
returns-clause-took c =
    changed c.self.inside.queues.items _ c.args.queue empty_queue c.index_mut.result.now c.receive.new.queue
    c.self.view_is (omega (arith, c.self.invariant, c.requires.fits)) c.index_mut.ensures.value
    (λ old new. Took old new (Some c.args.wait) c.args.duty c.receive.result)
    c.receive.ensures

pub returns-clause-others : goal.returns-clause-others
returns-clause-others c =
    only_changed c.self.inside.queues.items _ c.args.queue empty_queue c.index_mut.result.now
    c.receive.new.queue
    c.self.view_is (omega (arith, c.self.invariant, c.requires.fits)) c.index_mut.ensures.value
