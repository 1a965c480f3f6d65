use Rattle.rv_audit.proofs.Words.{passed_account, sym, subst}
use Rattle.rv_audit.proofs.Saying.{IsKnownIf, known, otherwise}
use Rattle.rv_audit.proofs.Telling.{unknown}
use Rattle.rv_audit.proofs.front.Front.waits_otherwise.Goals as goal

pub returns-in-Some : goal.returns-in-Some
returns-in-Some c = otherwise c.args.self.now c.args.key.now c.in-Some.session c.requires.front
    c.requires.session c.requires.waits (sym c.in-Some.ensures)

pub returns-in-None : goal.returns-in-None
returns-in-None c = absurd (unknown (passed_account c.args.self.now) c.args.key.now c.requires.session
    (subst (IsKnownIf (passed_account c.args.self.now).entries c.args.key.now.client)
    (sym c.in-None.ensures) (known c.args.self.now c.args.key.now.client c.requires.front)))
