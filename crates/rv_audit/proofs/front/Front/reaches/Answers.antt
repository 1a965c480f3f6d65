use Rattle.rv_audit.proofs.Words.{refl, sym, subst, passed_account}
use Rattle.rv_audit.proofs.Saying.{IsKnownIf, known}
use Rattle.rv_audit.proofs.Telling.{none_reached, reached}
use Rattle.rv_audit.proofs.front.Front.reaches.Goals as goal

pub returns-in-Some : goal.returns-in-Some
returns-in-Some c version =
    let is = subst (IsKnownIf (passed_account c.args.self.now).entries c.args.client)
    (sym c.in-Some.ensures) (known c.args.self.now c.args.client c.requires) in
    reached (passed_account c.args.self.now) c.args.client c.args.incarnation version c.in-Some.session _ refl
    c.requires.legal is

pub returns-in-None : goal.returns-in-None
returns-in-None c version = none_reached _ c.args.client c.args.incarnation version
    (subst (IsKnownIf (passed_account c.args.self.now).entries c.args.client)
    (sym c.in-None.ensures) (known c.args.self.now c.args.client c.requires))
