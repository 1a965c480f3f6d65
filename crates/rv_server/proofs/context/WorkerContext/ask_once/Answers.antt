-- What is told where the desk is asked, and where it isn't.
use Rattle.std.proofs.Common.{◌≡◌, ap}
use Rattle.rv_server.specs.locked.Stamps.{shown_stamps}
use Rattle.rv_server.specs.declared.fault.WorkFault.TheVariants.{NoMemory}
use Rattle.rv_server.proofs.Answering.{fault_gives}
use Rattle.rv_server.proofs.OfLocked.Getting.{nothing_told}
use Rattle.rv_server.proofs.context.WorkerContext.ask_once.Goals as goal

pub returns-in_err-reserve-clause-fault : goal.returns-in_err-reserve-clause-fault
returns-in_err-reserve-clause-fault g c =
    fault_gives c.from_residual.result (λ fault. fault ≡ NoMemory) _ c.from_residual.ensures.1
    (λ fault is. is)

pub returns-in-Err-clause-told : goal.returns-in-Err-clause-told
returns-in-Err-clause-told g c =
    nothing_told c.args.number c.args.body.now c.args.seat.now _ _ c.in-Err.told
    (ap (shown_stamps g.D.Desk.stamped) c.reserve.ensures.items) c.in-Err.ensures.told

pub returns-in-Ok-clause-told : goal.returns-in-Ok-clause-told
returns-in-Ok-clause-told g c =
    rw c.reserve.ensures.items at (c.ask_message.ensures c.args.body.now c.in-Ok.ensures.message)
