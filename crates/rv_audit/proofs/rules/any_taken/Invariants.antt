use Rattle.rv_audit.proofs.Words.{IsNoFreePlace, NoneBefore, passed_account}
use Rattle.rv_audit.proofs.rules.any_taken.Given as goal

abbrev pub invariant-loop-place : goal.invariant-loop-place
invariant-loop-place l = NoneBefore (IsNoFreePlace (passed_account l.front).entries) l.places l.place-index
