use Rattle.rv_traffic.specs.CallRuns.{OnlyCalls}
use Rattle.rv_host.proofs.look_over.LookOver.look.Given as goal

abbrev pub invariant-loop-number : goal.invariant-loop-number
invariant-loop-number g l = OnlyCalls l.fn.traffic l.traffic
