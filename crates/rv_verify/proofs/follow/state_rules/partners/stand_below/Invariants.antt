use Rattle.std.proofs.Common.{◌<◌}
use Rattle.rv_verify.specs.follow.state_rules.Walking.{HoldsBefore}
use Rattle.rv_verify.proofs.follow.state_rules.partners.stand_below.Given as goal

abbrev pub invariant-loop-place : goal.invariant-loop-place
invariant-loop-place l = HoldsBefore (λ p. p < l.length) l.places l.place-index
