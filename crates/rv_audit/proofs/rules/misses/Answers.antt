use Rattle.rv_audit.proofs.Words.{arith, false≢true, sym, ◌∙◌, IsOpenOpposite, passed_account}
use Rattle.rv_audit.proofs.Named.{none_next, told_next, told_none}
use Rattle.rv_audit.proofs.rules.misses.Goals as goal

pub returns-then-not-may_meet : goal.returns-then-not-may_meet
returns-then-not-may_meet c = told_next c.args.partners.now c.loop-place.place-index
    (λ p. IsOpenOpposite (passed_account c.args.front.now).entries c.args.call.now p → ⊥)
    c.loop-place-test.true
    (λ opposite. false≢true (sym c.if-not-may_meet.true ∙ c.may_meet.ensures.1 opposite))

pub loop-place-preserved : goal.loop-place-preserved
loop-place-preserved c =
    none_next c.args.partners.now c.loop-place.place-index
    (λ p. IsOpenOpposite (passed_account c.args.front.now).entries c.args.call.now p → ⊥)
    (λ none. none (c.may_meet.ensures.0 c.if-not-may_meet.false)) c.loop-place.invariant

pub returns : goal.returns
returns c = told_none c.args.partners.now c.loop-place.place-index
    (λ p. IsOpenOpposite (passed_account c.args.front.now).entries c.args.call.now p → ⊥) (omega arith)
    c.loop-place.invariant
