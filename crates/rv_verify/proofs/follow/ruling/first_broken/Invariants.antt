use Rattle.rv_machine.specs.Machines.{state_in}
use Rattle.rv_verify.specs.follow.state_rules.Ruling.{KeepsUpTo}
use Rattle.rv_verify.proofs.follow.ruling.first_broken.Given as goal

abbrev pub invariant-loop-rule : goal.invariant-loop-rule
invariant-loop-rule l = KeepsUpTo l.rule-index (state_in l.machine) l.entry
