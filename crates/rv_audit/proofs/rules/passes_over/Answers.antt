use Rattle.rv_audit.proofs.Words.{ℕ, List, subst, IsTrue, passed_account}
use Rattle.rv_audit.specs.Passed.{LeavesOlder}
use Rattle.rv_audit.proofs.Telling.{Iff, over}
use Rattle.rv_audit.proofs.rules.passes_over.Goals as goal

pub returns-in-Some : goal.returns-in-Some
returns-in-Some c =
    let es = (passed_account c.args.front.now).entries in
    over es c.args.entry.now c.in-Some.call.now c.leaves_older.result c.in-Some.ensures.some c.requires.meets
    (subst (λ (places : List ℕ). Iff (IsTrue c.leaves_older.result)
    (LeavesOlder es c.in-Some.call.now places)) c.as_slice.ensures c.leaves_older.ensures)
