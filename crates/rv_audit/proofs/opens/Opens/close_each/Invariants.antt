use Rattle.rv_audit.proofs.Words.{take}
use Rattle.rv_audit.specs.Opens.{ClosesEach}
use Rattle.rv_audit.proofs.opens.Opens.close_each.Given as goal

abbrev pub invariant-loop-place : goal.invariant-loop-place
invariant-loop-place l = ClosesEach l.initial.self l.self (take l.place-index l.places)
