-- One after another.
use Rattle.rv_traffic.proofs.CallsRun.{calls_join, calls_none}
use Rattle.rv_host.proofs.memory_watch.make_room.Goals as goal

pub loop-place-init : goal.loop-place-init
loop-place-init g c = calls_none c.args.traffic.now

pub loop-place-preserved : goal.loop-place-preserved
loop-place-preserved g c = calls_join _ _ _ c.loop-place.invariant c.close_largest.ensures

pub returns-then-not-close_largest : goal.returns-then-not-close_largest
returns-then-not-close_largest g c = calls_join _ _ _ c.loop-place.invariant c.close_largest.ensures
