use Rattle.rv_machine.specs.Machines.{state_in}
use Rattle.rv_account.specs.state.Kept.{IsOpposite}
use Rattle.rv_verify.specs.follow.state_rules.Walking.{HoldsBefore}
use Rattle.rv_verify.proofs.follow.state_rules.partners.all_opposite.Given as goal

abbrev pub invariant-loop-place : goal.invariant-loop-place
invariant-loop-place l = HoldsBefore (IsOpposite (state_in l.machine) l.call) l.partners l.place-index
