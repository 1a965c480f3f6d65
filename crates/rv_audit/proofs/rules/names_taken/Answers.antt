use Rattle.rv_audit.proofs.Words.{◌∙◌, ℕ, List, length, nat_eq, not, sym, ap, subst, IsTrue, false≢true}
use Rattle.rv_audit.proofs.Words.{NamesTaken, passed_account}
use Rattle.rv_audit.proofs.Telling.{Iff, who_meets_not}
use Rattle.rv_audit.proofs.rules.names_taken.Goals as goal

pub returns-else-meets : goal.returns-else-meets
returns-else-meets c =
    let es = (passed_account c.args.front.now).entries in
    let any = ap not (c.is_empty.ensures ∙ ap (λ (places : List ℕ). nat_eq (length places) 0)
    c.as_slice-partners.ensures) in
    subst (λ b. Iff (IsTrue b) (NamesTaken es c.args.entry.now)) (sym any)
    (who_meets_not es c.args.entry.now (λ meets. false≢true (sym c.if-meets.false ∙ c.meets.ensures.1 meets)))
