use Rattle.rv_traffic.specs.CallRuns.{OnlyCalls}
use Rattle.rv_host.proofs.memory_watch.make_room.Given as goal

abbrev pub invariant-loop-place : goal.invariant-loop-place
invariant-loop-place g l = OnlyCalls l.fn.traffic l.traffic
