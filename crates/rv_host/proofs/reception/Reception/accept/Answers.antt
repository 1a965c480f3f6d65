-- One after another.
use Rattle.rv_traffic.proofs.CallsRun.{calls_join, calls_none}
use Rattle.rv_host.proofs.reception.Reception.accept.Goals as goal

pub loop-turn-init : goal.loop-turn-init
loop-turn-init c = calls_none c.args.traffic.now

pub loop-turn-preserved : goal.loop-turn-preserved
loop-turn-preserved c = calls_join _ _ _ c.loop-turn.invariant c.accept_one.ensures

pub returns-then-not-accept_one : goal.returns-then-not-accept_one
returns-then-not-accept_one c = calls_join _ _ _ c.loop-turn.invariant c.accept_one.ensures
