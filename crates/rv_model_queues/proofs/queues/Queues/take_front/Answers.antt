-- What left its queue left the table.
use Rattle.rv_model_queues.proofs.Words.{arith}
use Rattle.rv_dual.specs.Meanings.{TakenFront}
use Rattle.rv_model_queues.specs.Views.{empty_queue}
use Rattle.rv_model_queues.proofs.Slots.{changed, only_changed}
use Rattle.rv_model_queues.proofs.queues.Queues.take_front.Goals as goal

pub returns-clause-front : goal.returns-clause-front
returns-clause-front c =
    changed c.self.inside.queues.items _ c.args.queue empty_queue c.index_mut.result.now c.take_front.new.self
    c.self.view_is (omega (arith, c.self.invariant, c.requires)) c.index_mut.ensures.value
    (λ old new. TakenFront old new c.take_front.result)
    c.take_front.ensures

pub returns-clause-others : goal.returns-clause-others
returns-clause-others c =
    only_changed c.self.inside.queues.items _ c.args.queue empty_queue c.index_mut.result.now
    c.take_front.new.self
    c.self.view_is (omega (arith, c.self.invariant, c.requires)) c.index_mut.ensures.value
