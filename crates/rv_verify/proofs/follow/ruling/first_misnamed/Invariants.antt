use Rattle.std.proofs.Common.{◌+◌}
use Rattle.rv_machine.specs.Machines.{state_in}
use Rattle.rv_verify.specs.follow.state_rules.Ruling.{KeepsUpTo}
use Rattle.rv_verify.proofs.follow.ruling.first_misnamed.Given as goal

abbrev pub invariant-loop-rule : goal.invariant-loop-rule
invariant-loop-rule l = KeepsUpTo (l.rule-index + 7) (state_in l.machine) l.entry
