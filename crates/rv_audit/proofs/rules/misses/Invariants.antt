use Rattle.rv_audit.proofs.Words.{IsOpenOpposite, NoneBefore, passed_account}
use Rattle.rv_audit.proofs.rules.misses.Given as goal

abbrev pub invariant-loop-place : goal.invariant-loop-place
invariant-loop-place l = NoneBefore (λ p. IsOpenOpposite (passed_account l.front).entries l.call p → ⊥)
    l.partners l.place-index
