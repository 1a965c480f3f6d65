-- The request that was laid at its exchanger was laid in the table.
use Rattle.rv_model_queues.proofs.Words.{◌≡◌, None, Option, OwedDuty, Some, arith, subst}
use Rattle.rv_model_queues.proofs.Slots.{changed, given, only_changed}
use Rattle.rv_model_queues.proofs.exchangers.Exchangers.lay.Goals as goal

pub lay-requires : goal.lay-requires
lay-requires c =
    subst (λ (o : Option OwedDuty). o ≡ None)
    (given c.self.inside.exchangers.items _ c.args.exchanger None c.index_mut.result.now
    c.index_mut.result.now
    c.self.view_is (omega (arith, c.self.invariant, c.requires.fits)) c.index_mut.ensures.value)
    c.requires.free

pub returns-clause-laid : goal.returns-clause-laid
returns-clause-laid c =
    changed c.self.inside.exchangers.items _ c.args.exchanger None c.index_mut.result.now c.lay.new.exchanger
    c.self.view_is (omega (arith, c.self.invariant, c.requires.fits)) c.index_mut.ensures.value
    (λ old new. new ≡ Some c.args.duty)
    c.lay.ensures

pub returns-clause-others : goal.returns-clause-others
returns-clause-others c =
    only_changed c.self.inside.exchangers.items _ c.args.exchanger None c.index_mut.result.now
    c.lay.new.exchanger
    c.self.view_is (omega (arith, c.self.invariant, c.requires.fits)) c.index_mut.ensures.value
