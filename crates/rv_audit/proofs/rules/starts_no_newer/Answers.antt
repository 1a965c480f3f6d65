use Rattle.rv_audit.proofs.Words.{subst, sym, StartsNoNewer, passed_account}
use Rattle.std.proofs.Common.{IsTrue}
use Rattle.rv_audit.proofs.Telling.{Iff}
use Rattle.rv_audit.proofs.rules.starts_no_newer.Goals as goal

-- whichever version the hello asks for
pub returns-in-Hello : goal.returns-in-Hello
returns-in-Hello c = subst (λ act. Iff (IsTrue c.reaches.result)
    (StartsNoNewer (passed_account c.args.front.now).entries act)) (sym c.in-Hello.is)
    (c.reaches.ensures c.in-Hello.version)
