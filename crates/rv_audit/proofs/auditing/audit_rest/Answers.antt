use Rattle.rv_audit.proofs.Firsts.{fault_told, legal_told, next_may}
use Rattle.rv_audit.proofs.auditing.audit_rest.Goals as goal

pub returns-in-Some-first_broken : goal.returns-in-Some-first_broken
returns-in-Some-first_broken c =
    fault_told c.loop-entry.front c.args.account.now c.len.result c.loop-entry.invariant.front
    c.loop-entry.invariant.same c.len.ensures
    c.in-Some.entry.now c.in-Some-first_broken.rule c.len-place.result c.len-place.ensures c.in-Some.ensures
    c.in-Some-first_broken.ensures.some

pub pass-requires-clause-may : goal.pass-requires-clause-may
pass-requires-clause-may c = next_may c.loop-entry.front c.args.account.now c.len.result
    c.loop-entry.invariant.front c.loop-entry.invariant.same c.len.ensures
    c.in-Some.entry.now c.in-Some.ensures c.in-None.ensures.none

pub returns : goal.returns
returns c = legal_told c.loop-entry.front c.args.account.now c.len.result
    c.loop-entry.invariant.front c.loop-entry.invariant.same c.len.ensures c.in_default.ensures
