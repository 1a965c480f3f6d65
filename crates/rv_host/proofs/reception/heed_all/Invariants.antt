use Rattle.rv_traffic.specs.CallRuns.{OnlyCalls}
use Rattle.rv_host.proofs.reception.heed_all.Given as goal

abbrev pub invariant-loop-event : goal.invariant-loop-event
invariant-loop-event l = OnlyCalls l.fn.traffic l.traffic
