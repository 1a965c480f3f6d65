-- Turn after turn.
use Rattle.std.proofs.Common.{refl}
use Rattle.rv_traffic.proofs.CallsRun.{calls_none}
use Rattle.rv_host.proofs.Turning.{calls_turn, turns_join}
use Rattle.rv_host.proofs.shell.Shell.serve.Goals as goal

pub loop-turn-init : goal.loop-turn-init
loop-turn-init g c =
    calls_turn g.K.Lasting.lasts c.args.self.now.traffic c.args.self.now.traffic c.args.self.now.account
    c.args.self.now.account refl (calls_none c.args.self.now.traffic)

pub loop-turn-preserved : goal.loop-turn-preserved
loop-turn-preserved g c =
    turns_join g.K.Lasting.lasts c.args.self.now.traffic c.loop-turn.self.traffic c.turn.new.self.traffic
    c.args.self.now.account c.loop-turn.self.account c.turn.new.self.account c.loop-turn.invariant
    c.turn.ensures.turns

pub returns-in-Err : goal.returns-in-Err
returns-in-Err g c = record {
  turns = turns_join g.K.Lasting.lasts c.args.self.now.traffic c.loop-turn.self.traffic
      c.turn.new.self.traffic c.args.self.now.account c.loop-turn.self.account c.turn.new.self.account
      c.loop-turn.invariant c.turn.ensures.turns;
}
