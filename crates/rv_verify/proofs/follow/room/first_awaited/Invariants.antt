use Rattle.rv_machine.specs.Machines.{state_in}
use Rattle.rv_verify.specs.follow.state_rules.Rooming.{IsUnawaited}
use Rattle.rv_verify.specs.follow.state_rules.Walking.{HoldsBefore}
use Rattle.rv_verify.proofs.follow.room.first_awaited.Given as goal

abbrev pub invariant-loop-place : goal.invariant-loop-place
invariant-loop-place l = HoldsBefore (IsUnawaited (state_in l.machine)) l.places l.place-index
