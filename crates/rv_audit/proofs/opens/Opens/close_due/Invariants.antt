use Rattle.rv_audit.proofs.Closing.{ClosedSome}
use Rattle.rv_audit.specs.Opens.{count_of}
use Rattle.rv_audit.proofs.opens.Opens.close_due.Given as goal

abbrev pub invariant-loop-place : goal.invariant-loop-place
invariant-loop-place l = ClosedSome l.initial.self l.self l.moment

abbrev pub decreases-loop-place : goal.decreases-loop-place
decreases-loop-place l = count_of l.self
