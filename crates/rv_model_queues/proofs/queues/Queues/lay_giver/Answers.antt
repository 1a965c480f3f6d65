-- The item that was laid in its queue was laid in the table.
use Rattle.rv_model_queues.proofs.Words.{◌≡◌, ◌<◌, Queue, [], arith, place_of, subst}
use Rattle.rv_dual.specs.Meanings.{ParksGiver}
use Rattle.rv_dual.specs.Offers.{offer_of}
use Rattle.rv_dual.specs.Queue.{IsAbove}
use Rattle.rv_model_queues.specs.Views.{empty_queue}
use Rattle.rv_model_queues.proofs.Slots.{changed, given, only_changed}
use Rattle.rv_model_queues.proofs.queues.Queues.lay_giver.Goals as goal

pub lay_giver-requires-clause-nobody : goal.lay_giver-requires-clause-nobody
lay_giver-requires-clause-nobody c =
    subst (λ (q : Queue). q.takers ≡ [])
    (given c.self.inside.queues.items _ c.args.queue empty_queue c.index_mut.result.now c.index_mut.result.now
    c.self.view_is (omega (arith, c.self.invariant, c.requires.fits)) c.index_mut.ensures.value)
    c.requires.nobody

pub lay_giver-requires-clause-room : goal.lay_giver-requires-clause-room
lay_giver-requires-clause-room c =
    subst (λ (q : Queue). 0 < q.giver_room.spare)
    (given c.self.inside.queues.items _ c.args.queue empty_queue c.index_mut.result.now c.index_mut.result.now
    c.self.view_is (omega (arith, c.self.invariant, c.requires.fits)) c.index_mut.ensures.value)
    c.requires.room

pub lay_giver-requires-clause-above : goal.lay_giver-requires-clause-above
lay_giver-requires-clause-above c =
    subst (λ (q : Queue). IsAbove q (place_of (offer_of c.args.giver)))
    (given c.self.inside.queues.items _ c.args.queue empty_queue c.index_mut.result.now c.index_mut.result.now
    c.self.view_is (omega (arith, c.self.invariant, c.requires.fits)) c.index_mut.ensures.value)
    c.requires.above

pub returns-clause-laid : goal.returns-clause-laid
returns-clause-laid c =
    changed c.self.inside.queues.items _ c.args.queue empty_queue c.index_mut.result.now c.lay_giver.new.queue
    c.self.view_is (omega (arith, c.self.invariant, c.requires.fits)) c.index_mut.ensures.value
    (λ old new. ParksGiver old new (offer_of c.args.giver))
    c.lay_giver.ensures

pub returns-clause-others : goal.returns-clause-others
returns-clause-others c =
    only_changed c.self.inside.queues.items _ c.args.queue empty_queue c.index_mut.result.now
    c.lay_giver.new.queue
    c.self.view_is (omega (arith, c.self.invariant, c.requires.fits)) c.index_mut.ensures.value
