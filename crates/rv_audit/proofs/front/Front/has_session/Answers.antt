use Rattle.rv_audit.proofs.Words.{◌∙◌, passed_account, sym, subst}
use Rattle.rv_audit.proofs.Saying.{IsKnownIf, known}
use Rattle.rv_audit.proofs.Telling.{no_session, of_session}
use Rattle.rv_audit.proofs.front.Front.has_session.Goals as goal

pub returns-then-key-epoch : goal.returns-then-key-epoch
returns-then-key-epoch c = of_session (passed_account c.args.self.now) c.args.key.now c.in-Some.session
    (subst (IsKnownIf (passed_account c.args.self.now).entries c.args.key.now.client)
    (sym c.in-Some.ensures) (known c.args.self.now c.args.key.now.client c.requires)) (c.if-key-epoch.true
    ∙ c.epoch.ensures)

pub returns-in-None : goal.returns-in-None
returns-in-None c = no_session (passed_account c.args.self.now) c.args.key.now
    (subst (IsKnownIf (passed_account c.args.self.now).entries c.args.key.now.client)
    (sym c.in-None.ensures) (known c.args.self.now c.args.key.now.client c.requires))
