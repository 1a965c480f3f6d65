-- The line of an account that was read, and that of the first bad line.
use Rattle.std.proofs.Common.{◌≡◌, Err, ap, string_bytes}
use Rattle.std.proofs.lemmas.Result.{IfOk-weaker}
use Rattle.rv_run.proofs.Faulting.{kept_ok, told_fault}
use Rattle.rv_run.specs.declared.fault.RunFault.TheVariants as run
use Rattle.rv_app.specs.Audits.{HasLine}
use Rattle.rv_app.proofs.Telling.{bad_line_told}
use Rattle.rv_app.proofs.audit.tell_input.Goals as goal

pub returns-in-Ok-clause-ok : goal.returns-in-Ok-clause-ok
returns-in-Ok-clause-ok c =
    let told = IfOk-weaker c.tell_account.result _ (HasLine c.args.input.now)
    (λ line says. says c.args.input.now c.in-Ok.ensures.account) c.tell_account.ensures in
    kept_ok _ c.tell_account.result c.map_err.result (HasLine c.args.input.now) c.map_err.ensures.cases told

pub returns-in-Ok-clause-fault : goal.returns-in-Ok-clause-fault
returns-in-Ok-clause-fault c = told_fault _ c.tell_account.result c.map_err.result
    (λ fault. fault ≡ run.NoMemory) (λ e fault gives. gives) c.map_err.ensures.cases

pub returns-in_ok-line-in-Err-BadLine-clause-ok : goal.returns-in_ok-line-in-Err-BadLine-clause-ok
returns-in_ok-line-in-Err-BadLine-clause-ok c =
    let number = c.in-Err-BadLine.number in
    bad_line_told c.args.input.now (string_bytes c.in_ok-line-in-Err-BadLine.line) number
    (c.in-Err-BadLine.ensures.bad number (ap Err c.in-Err-BadLine.field-0-is))
    c.in_ok-line-in-Err-BadLine.ensures.ok
