use Rattle.rv_machine.specs.Machines.{state_in}
use Rattle.rv_verify.specs.follow.state_rules.Walking.{AgreeBefore, facing_places}
use Rattle.rv_verify.proofs.follow.state_rules.line.are_oldest.Given as goal

abbrev pub invariant-loop-index : goal.invariant-loop-index
invariant-loop-index l = AgreeBefore l.partners (facing_places (state_in l.machine) l.call) l.index
