-- What an arrival did at its exchanger it did to the table.
use Rattle.rv_model_queues.proofs.Words.{None, arith}
use Rattle.rv_model_queues.specs.Meeting.{Exchanged}
use Rattle.rv_model_queues.proofs.Slots.{changed, only_changed}
use Rattle.rv_model_queues.proofs.exchangers.Exchangers.exchange.Goals as goal

pub returns-clause-exchanged : goal.returns-clause-exchanged
returns-clause-exchanged c =
    changed c.self.inside.exchangers.items _ c.args.exchanger None c.index_mut.result.now
    c.exchange.new.exchanger
    c.self.view_is (omega (arith, c.self.invariant, c.requires)) c.index_mut.ensures.value
    (λ old new. Exchanged old new c.args.wait c.args.duty c.exchange.result)
    c.exchange.ensures

pub returns-clause-others : goal.returns-clause-others
returns-clause-others c =
    only_changed c.self.inside.exchangers.items _ c.args.exchanger None c.index_mut.result.now
    c.exchange.new.exchanger
    c.self.view_is (omega (arith, c.self.invariant, c.requires)) c.index_mut.ensures.value
