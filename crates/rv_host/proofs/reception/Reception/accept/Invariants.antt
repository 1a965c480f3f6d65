use Rattle.rv_traffic.specs.CallRuns.{OnlyCalls}
use Rattle.rv_host.proofs.reception.Reception.accept.Given as goal

abbrev pub invariant-loop-turn : goal.invariant-loop-turn
invariant-loop-turn l = OnlyCalls l.fn.traffic l.traffic
