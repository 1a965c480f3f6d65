use Rattle.rv_audit.proofs.Words.{IfNone, IfSome, refl, sym, subst, NoneUntil}
use Rattle.rv_audit.specs.Marks.{IsUntil}
use Rattle.rv_audit.proofs.Pairs.{until_found}
use Rattle.rv_audit.proofs.marks.Marks.until.Goals as goal

pub returns-clause-some : goal.returns-clause-some
returns-clause-some c = subst (λ o. IfSome o (IsUntil c.args.self.now c.args.limit)) (sym c.then_some.ensures)
    (until_found c.args.self.now.marks c.args.limit c.in_ok-number.field-0.now _
    c.in_ok-number.ensures.member c.in_ok-number.ensures.least refl).0

pub returns-clause-none : goal.returns-clause-none
returns-clause-none c = subst (λ o. IfNone o (NoneUntil c.args.self.now c.args.limit))
    (sym c.then_some.ensures)
    (until_found c.args.self.now.marks c.args.limit c.in_ok-number.field-0.now _
    c.in_ok-number.ensures.member c.in_ok-number.ensures.least refl).1
