use Rattle.std.proofs.lemmas.Result.{IfOk-weaker}
use Rattle.rv_audit.specs.Faults.{IsToldOf}
use Rattle.rv_audit.proofs.Firsts.{IsLegalIf, legal_if_told}
use Rattle.rv_audit.proofs.auditing.audit.Goals as goal

pub returns-clause-legal : goal.returns-clause-legal
returns-clause-legal c = IfOk-weaker c.audit_rest.result (IsToldOf c.args.account.now.account)
    (IsLegalIf c.args.account.now.account) (legal_if_told c.args.account.now.account) c.audit_rest.ensures
