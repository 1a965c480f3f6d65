use Rattle.rv_audit.proofs.Words.{passed_account, sym, subst}
use Rattle.rv_audit.proofs.Saying.{IsKnownIf, known}
use Rattle.rv_audit.proofs.Telling.{not_next_high, not_next_low, unknown}
use Rattle.rv_audit.proofs.front.Front.is_not_next.Goals as goal

pub returns-then-key-session : goal.returns-then-key-session
returns-then-key-session c =
    let is = subst (IsKnownIf (passed_account c.args.self.now).entries c.args.key.now.client)
    (sym c.in-Some.ensures) (known c.args.self.now c.args.key.now.client c.requires.front) in
    not_next_low _ c.args.key.now c.in-Some.session is c.if-key-session.true

pub returns-else-key-session : goal.returns-else-key-session
returns-else-key-session c =
    let is = subst (IsKnownIf (passed_account c.args.self.now).entries c.args.key.now.client)
    (sym c.in-Some.ensures) (known c.args.self.now c.args.key.now.client c.requires.front) in
    not_next_high _ c.args.key.now c.in-Some.session is c.if-key-session.false

pub returns-in-None : goal.returns-in-None
returns-in-None c = absurd (unknown (passed_account c.args.self.now) c.args.key.now c.requires.session
    (subst (IsKnownIf (passed_account c.args.self.now).entries c.args.key.now.client)
    (sym c.in-None.ensures) (known c.args.self.now c.args.key.now.client c.requires.front)))
