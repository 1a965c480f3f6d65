-- The line of a fault.
use Rattle.std.proofs.Common.{string_bytes, subst}
use Rattle.rv_audit.specs.Faults.{IsToldOf}
use Rattle.rv_app.proofs.Telling.{fault_line}
use Rattle.rv_app.proofs.audit.tell_account.Goals as goal

pub returns-in_ok-line-in-Fault : goal.returns-in_ok-line-in-Fault
returns-in_ok-line-in-Fault c input reads =
    let first = subst (IsToldOf c.args.account.now.account) c.in-Fault.is c.in_ok-audit.ensures.told in
    fault_line input (string_bytes c.in_ok-line-in-Fault.line) c.name-name.result.now
    c.args.account.now.account c.in-Fault.place c.in-Fault.rule reads first c.name-name.ensures
    c.in_ok-line-in-Fault.ensures.ok
