-- One event after another.
use Rattle.rv_traffic.proofs.CallsRun.{calls_join, calls_none}
use Rattle.rv_host.proofs.reception.heed_all.Goals as goal

pub loop-event-init : goal.loop-event-init
loop-event-init c = calls_none c.args.traffic.now

pub loop-event-preserved : goal.loop-event-preserved
loop-event-preserved c = calls_join _ _ _ c.loop-event.invariant c.heed_event.ensures
