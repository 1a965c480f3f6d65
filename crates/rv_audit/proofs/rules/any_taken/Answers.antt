use Rattle.rv_audit.proofs.Words.{arith, false≢true, sym, ◌∙◌, IsNoFreePlace, passed_account}
use Rattle.rv_audit.proofs.Named.{none_next, told_next, told_none}
use Rattle.rv_audit.proofs.rules.any_taken.Goals as goal

pub returns-then-is_taken : goal.returns-then-is_taken
returns-then-is_taken c = told_next c.args.places.now c.loop-place.place-index
    (IsNoFreePlace (passed_account c.args.front.now).entries) c.loop-place-test.true
    (c.is_taken.ensures.0 c.if-is_taken.true)

pub loop-place-preserved : goal.loop-place-preserved
loop-place-preserved c = none_next c.args.places.now c.loop-place.place-index
    (IsNoFreePlace (passed_account c.args.front.now).entries)
    (λ taken. false≢true (sym c.if-is_taken.false ∙ c.is_taken.ensures.1 taken)) c.loop-place.invariant

pub returns : goal.returns
returns c = told_none c.args.places.now c.loop-place.place-index
    (IsNoFreePlace (passed_account c.args.front.now).entries) (omega arith) c.loop-place.invariant
