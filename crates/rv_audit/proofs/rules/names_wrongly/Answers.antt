use Rattle.rv_audit.proofs.Words.{◌∙◌, inl, inr, sym, false≢true, passed_account}
use Rattle.rv_audit.specs.AccountRules.{NamesWrongly}
use Rattle.rv_audit.proofs.Telling.{rises_or_not}
use Rattle.rv_audit.proofs.rules.names_wrongly.Goals.{then-names_taken, else-names_taken}
use Rattle.rv_audit.proofs.rules.names_wrongly.Goals as goal

pub returns-then-names_too_many : goal.returns-then-names_too_many
returns-then-names_too_many c =
    let wrongly : NamesWrongly (passed_account c.args.front.now).entries c.args.entry.now =
    elim c.if-names_taken.branch [
      | then-names_taken w ↦ inl (c.names_taken.ensures.0 w.if-names_taken.true)
      | else-names_taken w
          ↦ inr (inl (w.names_too_many.ensures.0 (sym w.value-is ∙ c.if-names_too_many.true)))
    ] in
    (λ t. wrongly, λ w. c.if-names_too_many.true)

pub returns-else-names_too_many : goal.returns-else-names_too_many
returns-else-names_too_many c = elim c.if-names_taken.branch [
  | then-names_taken w
      ↦ absurd (false≢true (sym c.if-names_too_many.false ∙ w.value-is ∙ w.if-names_taken.true))
  | else-names_taken w ↦ rises_or_not (passed_account c.args.front.now).entries c.args.entry.now
      c.as_slice.result.now c.rise.result c.as_slice.ensures
      (λ taken. false≢true (sym w.if-names_taken.false ∙ c.names_taken.ensures.1 taken))
      (λ many. false≢true (sym c.if-names_too_many.false ∙ w.value-is ∙ w.names_too_many.ensures.1 many))
      c.rise.ensures
]
