-- The consumer that was laid in its queue was laid in the table.
use Rattle.rv_model_queues.proofs.Words.{◌≡◌, ◌<◌, Queue, [], arith, subst}
use Rattle.rv_dual.specs.Meanings.{ParksTaker}
use Rattle.rv_dual.specs.Queue.{IsAbove}
use Rattle.rv_model_queues.specs.Views.{empty_queue}
use Rattle.rv_model_queues.proofs.Slots.{changed, given, only_changed}
use Rattle.rv_model_queues.proofs.queues.Queues.lay_taker.Goals as goal

pub lay_taker-requires-clause-nobody : goal.lay_taker-requires-clause-nobody
lay_taker-requires-clause-nobody c =
    subst (λ (q : Queue). q.givers ≡ [])
    (given c.self.inside.queues.items _ c.args.queue empty_queue c.index_mut.result.now c.index_mut.result.now
    c.self.view_is (omega (arith, c.self.invariant, c.requires.fits)) c.index_mut.ensures.value)
    c.requires.nobody

pub lay_taker-requires-clause-room : goal.lay_taker-requires-clause-room
lay_taker-requires-clause-room c =
    subst (λ (q : Queue). 0 < q.taker_room.spare)
    (given c.self.inside.queues.items _ c.args.queue empty_queue c.index_mut.result.now c.index_mut.result.now
    c.self.view_is (omega (arith, c.self.invariant, c.requires.fits)) c.index_mut.ensures.value)
    c.requires.room

pub lay_taker-requires-clause-above : goal.lay_taker-requires-clause-above
lay_taker-requires-clause-above c =
    subst (λ (q : Queue). IsAbove q c.args.duty.place)
    (given c.self.inside.queues.items _ c.args.queue empty_queue c.index_mut.result.now c.index_mut.result.now
    c.self.view_is (omega (arith, c.self.invariant, c.requires.fits)) c.index_mut.ensures.value)
    c.requires.above

pub returns-clause-laid : goal.returns-clause-laid
returns-clause-laid c =
    changed c.self.inside.queues.items _ c.args.queue empty_queue c.index_mut.result.now c.lay_taker.new.queue
    c.self.view_is (omega (arith, c.self.invariant, c.requires.fits)) c.index_mut.ensures.value
    (λ old new. ParksTaker old new c.args.duty)
    c.lay_taker.ensures

pub returns-clause-others : goal.returns-clause-others
returns-clause-others c =
    only_changed c.self.inside.queues.items _ c.args.queue empty_queue c.index_mut.result.now
    c.lay_taker.new.queue
    c.self.view_is (omega (arith, c.self.invariant, c.requires.fits)) c.index_mut.ensures.value
