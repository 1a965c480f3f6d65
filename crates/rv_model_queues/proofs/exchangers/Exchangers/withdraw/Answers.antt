-- What left its exchanger left the table.
use Rattle.rv_model_queues.proofs.Words.{None, arith}
use Rattle.rv_model_queues.specs.Meeting.{LeftExchanger}
use Rattle.rv_model_queues.proofs.Exchanging.{left_as}
use Rattle.rv_model_queues.proofs.Slots.{changed, only_changed}
use Rattle.rv_model_queues.proofs.exchangers.Exchangers.withdraw.Goals as goal

pub returns-clause-left : goal.returns-clause-left
returns-clause-left c =
    changed c.self.inside.exchangers.items _ c.args.exchanger None c.index_mut.result.now c.withdraw.new.self
    c.self.view_is (omega (arith, c.self.invariant, c.requires)) c.index_mut.ensures.value
    (λ old new. LeftExchanger old new c.args.place c.withdraw.result)
    (left_as c.index_mut.result.now c.withdraw.new.self c.args.place c.withdraw.result
    c.withdraw.ensures.taken c.withdraw.ensures.not_there c.withdraw.ensures.stays)

pub returns-clause-others : goal.returns-clause-others
returns-clause-others c =
    only_changed c.self.inside.exchangers.items _ c.args.exchanger None c.index_mut.result.now
    c.withdraw.new.self
    c.self.view_is (omega (arith, c.self.invariant, c.requires)) c.index_mut.ensures.value
