use Rattle.rv_audit.proofs.Closing.{closed_all}
use Rattle.rv_audit.proofs.opens.Opens.close_due.Goals as goal

pub returns-clause-closes : goal.returns-clause-closes
returns-clause-closes c = closed_all c.args.self.now c.loop-place.self c.args.moment c.loop-place.invariant
    c.in_default.ensures.none
