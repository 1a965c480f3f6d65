-- None of the places before is this one.
use Rattle.std.proofs.Common.{◌≢◌}
use Rattle.rv_verify.specs.follow.state_rules.Walking.{HoldsBefore}
use Rattle.rv_verify.proofs.naming.is_among.Given as goal

abbrev pub invariant-loop-other : goal.invariant-loop-other
invariant-loop-other l = HoldsBefore (λ p. p ≢ l.place) l.places l.other-index
