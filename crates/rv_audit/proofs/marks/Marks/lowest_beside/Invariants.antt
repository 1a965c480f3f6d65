use Rattle.rv_audit.specs.Marks.{AreNamedTo}
use Rattle.rv_audit.proofs.Beside.{left_from}
use Rattle.rv_audit.proofs.marks.Marks.lowest_beside.Given as goal

abbrev pub invariant-loop-place : goal.invariant-loop-place
invariant-loop-place l = AreNamedTo l.self l.number l.places l.last

abbrev pub decreases-loop-place : goal.decreases-loop-place
decreases-loop-place l = left_from l.last
