-- What the device of the account took.
use Rattle.std.proofs.Common.{refl, subst, sym}
use Rattle.rv_host.specs.Turns.{TakesAllLines}
use Rattle.rv_traffic.proofs.CallsRun.{calls_none}
use Rattle.rv_host.proofs.Turning.{calls_turn, wrote_turn}
use Rattle.rv_host.proofs.shell.Shell.write_account.Goals as goal

pub returns-in-Some-clause-turns : goal.returns-in-Some-clause-turns
returns-in-Some-clause-turns g c =
    wrote_turn g.K.Lasting.lasts c.args.self.now.traffic c.write_lines.new.traffic
    c.args.self.now.account _ c.write_lines.new.account c.in-Some.is c.write_lines.ensures.over

pub returns-in-None-clause-turns : goal.returns-in-None-clause-turns
returns-in-None-clause-turns g c =
    calls_turn g.K.Lasting.lasts _ _ _ _ refl (calls_none c.args.self.now.traffic)

pub returns-in-None-clause-works : goal.returns-in-None-clause-works
returns-in-None-clause-works g c = subst (TakesAllLines g.K.Lasting.lasts) (sym c.in-None.is) tt
