-- The fault of a flush.
use Rattle.std.proofs.Common.{◌≡◌, ◌∙◌, ap}
use Rattle.rv_server.specs.declared.fault.WorkFault.TheVariants.{WriteFault}
use Rattle.rv_server.proofs.Answering.{fault_gives}
use Rattle.rv_server.proofs.asking.flush_and_pause.Goals as goal

pub returns-in_err-flush-clause-fault : goal.returns-in_err-flush-clause-fault
returns-in_err-flush-clause-fault g c =
    fault_gives c.from_residual.result (λ fault. fault ≡ WriteFault c.in_err-flush.field-0.0.sent) _
    c.from_residual.ensures.1 (λ fault is. is ∙ ap WriteFault c.in_err-flush.ensures.none)
