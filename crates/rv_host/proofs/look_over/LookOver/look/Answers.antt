-- One after another.
use Rattle.rv_traffic.proofs.CallsRun.{calls_join, calls_none}
use Rattle.rv_host.proofs.look_over.LookOver.look.Goals as goal

pub loop-number-init : goal.loop-number-init
loop-number-init g c = calls_none c.args.traffic.now

pub loop-number-preserved : goal.loop-number-preserved
loop-number-preserved g c = calls_join _ _ _ c.loop-number.invariant c.look_over_one.ensures
