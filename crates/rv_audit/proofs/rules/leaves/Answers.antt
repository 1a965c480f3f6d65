use Rattle.rv_audit.proofs.Words.{◌<◌, length, sym, subst, passed_account, IsTrue}
use Rattle.rv_audit.specs.Passed.{LeavesPartner}
use Rattle.rv_audit.proofs.Telling.{Iff, one_left}
use Rattle.rv_audit.proofs.rules.leaves.Goals as goal

pub returns-then-partners-may_name : goal.returns-then-partners-may_name
returns-then-partners-may_name c =
    let es = (passed_account c.args.front.now).entries in
    subst (λ b. Iff (IsTrue b) (LeavesPartner es c.args.call.now c.args.partners.now)) (sym c.is_some.ensures)
    (one_left es c.args.call.now c.args.partners.now c.oldest_opposite.result
    (subst (λ n. length c.args.partners.now < n) c.may_name.ensures c.if-partners-may_name.true)
    c.oldest_opposite.ensures)
