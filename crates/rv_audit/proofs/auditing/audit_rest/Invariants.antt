use Rattle.rv_audit.proofs.Words.{◌≡◌, ◌-◌, length, IsFront}
use Rattle.rv_audit.proofs.auditing.audit_rest.Given as goal

abbrev pub invariant-loop-entry : goal.invariant-loop-entry
invariant-loop-entry l = record { front : IsFront l.front; same : l.front.account.now ≡ l.account }

abbrev pub decreases-loop-entry : goal.decreases-loop-entry
decreases-loop-entry l = length l.account.account.entries - length l.front.taken.items
