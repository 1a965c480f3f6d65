use Rattle.rv_audit.proofs.Words.{passed_account}
use Rattle.rv_audit.specs.AccountRules.{KeepsBefore}
use Rattle.rv_audit.proofs.rules.first_broken.Given as goal

abbrev pub invariant-loop-rule : goal.invariant-loop-rule
invariant-loop-rule l = KeepsBefore l.rule-index (passed_account l.front) l.entry
