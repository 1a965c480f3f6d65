use Rattle.rv_audit.proofs.Words.{ℕ, List, subst, IsTrue, passed_account}
use Rattle.rv_audit.proofs.Telling.{Iff, nobody_met}
use Rattle.rv_audit.specs.Passed.{LeavesPartner}
use Rattle.rv_audit.proofs.rules.misses_partner.Goals as goal

pub returns-in-Some : goal.returns-in-Some
returns-in-Some c =
    let told = subst (λ (places : List ℕ). Iff (IsTrue c.leaves.result)
    (LeavesPartner (passed_account c.args.front.now).entries c.in-Some.call.now places))
    c.as_slice.ensures c.leaves.ensures in
    nobody_met _ _ c.args.entry.now c.in-Some.call.now c.leaves.result c.in-Some.ensures.some told
