-- All that came, the lines, and all that leaves.
use Rattle.std.proofs.Common.{subst, sym}
use Rattle.rv_host.specs.Turns.{TakesAllLines}
use Rattle.rv_host.proofs.Turning.{calls_turn, turns_join}
use Rattle.rv_host.proofs.shell.Shell.go_through.Goals as goal

pub returns-in-Ok-clause-turns : goal.returns-in-Ok-clause-turns
returns-in-Ok-clause-turns g c =
    turns_join g.K.Lasting.lasts c.args.self.now.traffic c.write_account.new.self.traffic
    c.send_all.new.self.traffic c.args.self.now.account c.write_account.new.self.account
    c.send_all.new.self.account
    (turns_join g.K.Lasting.lasts c.args.self.now.traffic c.take_all.new.self.traffic
    c.write_account.new.self.traffic c.args.self.now.account c.take_all.new.self.account
    c.write_account.new.self.account
    (calls_turn g.K.Lasting.lasts _ _ _ _ c.take_all.ensures.account c.take_all.ensures.runs)
    c.write_account.ensures.turns)
    (calls_turn g.K.Lasting.lasts _ _ _ _ c.send_all.ensures.account c.send_all.ensures.runs)

pub returns-in-Err-clause-turns : goal.returns-in-Err-clause-turns
returns-in-Err-clause-turns g c =
    turns_join g.K.Lasting.lasts c.args.self.now.traffic c.take_all.new.self.traffic
    c.write_account.new.self.traffic c.args.self.now.account c.take_all.new.self.account
    c.write_account.new.self.account
    (calls_turn g.K.Lasting.lasts _ _ _ _ c.take_all.ensures.account c.take_all.ensures.runs)
    c.write_account.ensures.turns

pub returns-in-Ok-clause-works : goal.returns-in-Ok-clause-works
returns-in-Ok-clause-works g c =
    subst (TakesAllLines g.K.Lasting.lasts) (sym c.send_all.ensures.account) c.in-Ok.ensures.works

pub returns-then-not-has_room-clause-turns : goal.returns-then-not-has_room-clause-turns
returns-then-not-has_room-clause-turns g c =
    calls_turn g.K.Lasting.lasts _ _ _ _ c.take_all.ensures.account c.take_all.ensures.runs
