use Rattle.rv_audit.proofs.Words.{OpenAt, passed_account, IsTrue, sym, subst}
use Rattle.std.proofs.Common.{◌↔◌}
use Rattle.rv_audit.proofs.Saying.{lines_say}
use Rattle.rv_audit.proofs.front.Front.is_open.Goals as goal

pub returns : goal.returns
returns c = subst (λ b. IsTrue b ↔ OpenAt (passed_account c.args.self.now).entries c.args.side c.args.place)
    (sym c.has.ensures) (lines_say c.args.self.now c.requires c.args.side c.args.place)
