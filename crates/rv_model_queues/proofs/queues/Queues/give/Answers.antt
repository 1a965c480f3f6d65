-- What a giver did to its queue it did to the table.
use Rattle.rv_model_queues.proofs.Words.{Queue, arith, subst}
use Rattle.rv_dual.specs.Queue.{IsAbove}
use Rattle.rv_model_queues.specs.Meeting.{Gave, HasRoomToGive}
use Rattle.rv_model_queues.specs.Views.{empty_queue}
use Rattle.rv_model_queues.proofs.Slots.{changed, given, only_changed}
use Rattle.rv_model_queues.proofs.queues.Queues.give.Goals as goal

pub give-requires-clause-room : goal.give-requires-clause-room
give-requires-clause-room c =
    subst (λ (q : Queue). HasRoomToGive q c.args.wait)
    (given c.self.inside.queues.items _ c.args.queue empty_queue c.index_mut.result.now c.index_mut.result.now
    c.self.view_is (omega (arith, c.self.invariant, c.requires.fits)) c.index_mut.ensures.value)
    c.requires.room

pub give-requires-clause-above : goal.give-requires-clause-above
give-requires-clause-above c =
    subst (λ (q : Queue). IsAbove q c.args.duty.place)
    (given c.self.inside.queues.items _ c.args.queue empty_queue c.index_mut.result.now c.index_mut.result.now
    c.self.view_is (omega (arith, c.self.invariant, c.requires.fits)) c.index_mut.ensures.value)
    c.requires.above

pub returns-clause-gave : goal.returns-clause-gave
returns-clause-gave c =
    changed c.self.inside.queues.items _ c.args.queue empty_queue c.index_mut.result.now c.give.new.queue
    c.self.view_is (omega (arith, c.self.invariant, c.requires.fits)) c.index_mut.ensures.value
    (λ old new. Gave old new c.args.wait c.args.duty c.give.result)
    c.give.ensures

pub returns-clause-others : goal.returns-clause-others
returns-clause-others c =
    only_changed c.self.inside.queues.items _ c.args.queue empty_queue c.index_mut.result.now c.give.new.queue
    c.self.view_is (omega (arith, c.self.invariant, c.requires.fits)) c.index_mut.ensures.value
