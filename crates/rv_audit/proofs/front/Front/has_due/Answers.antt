use Rattle.rv_audit.proofs.Words.{SomethingDue, passed_account, IsTrue, sym, subst}
use Rattle.std.proofs.Common.{◌↔◌}
use Rattle.rv_audit.proofs.Saying.{some_due}
use Rattle.rv_audit.proofs.front.Front.has_due.Goals as goal

pub returns : goal.returns
returns c = subst (λ b. IsTrue b ↔ SomethingDue (passed_account c.args.self.now).entries c.args.moment)
    (sym c.is_some.ensures)
    (some_due c.args.self.now c.requires c.args.moment c.due.result c.ranges.moment.fits c.due.ensures.some
    c.due.ensures.none)
