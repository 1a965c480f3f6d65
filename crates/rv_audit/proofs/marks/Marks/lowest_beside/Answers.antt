use Rattle.rv_audit.proofs.Words.{◌∙◌, false≢true, sym}
use Rattle.rv_audit.proofs.Beside.{fewer_left, lowest_left, named_to, none_left}
use Rattle.rv_audit.proofs.marks.Marks.lowest_beside.Goals as goal

pub loop-place-smaller : goal.loop-place-smaller
loop-place-smaller c = fewer_left c.loop-place.last c.in-Some.place c.in-Some.ensures.some.behind
    c.in-Some.ensures.fits

pub returns-then-not-is_named-clause-some : goal.returns-then-not-is_named-clause-some
returns-then-not-is_named-clause-some c = lowest_left c.args.self.now c.args.number c.args.places.now
    c.loop-place.last c.loop-place.invariant c.in-Some.place c.in-Some.ensures.some
    (λ among. false≢true (sym c.if-not-is_named.true ∙ c.is_named.ensures.1 among))

pub loop-place-preserved : goal.loop-place-preserved
loop-place-preserved c = named_to c.args.self.now c.args.number c.args.places.now c.loop-place.last
    c.loop-place.invariant c.in-Some.place c.in-Some.ensures.some (c.is_named.ensures.0
    c.if-not-is_named.false)

pub returns-clause-none : goal.returns-clause-none
returns-clause-none c = none_left c.args.self.now c.args.number c.args.places.now c.loop-place.last
    c.loop-place.invariant c.in_default.ensures.none
