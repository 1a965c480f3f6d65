-- The flat object is the range up to its end.
use Rattle.std.proofs.Common.{◌++◌, drop, sym, ap, ◌∙◌, subst, arith}
use Rattle.rv_json.specs.Pair.{IsFlatText}
use Rattle.rv_json.proofs.FlatParts.{range_here}
use Rattle.rv_json.proofs.PairText.{flat_range}
use Rattle.rv_json.proofs.pair.scan_object.Goals as goal

pub returns-clause-text : goal.returns-clause-text
returns-clause-text c =
    let d = c.args.text.now in
    let end = c.in-Some.end in
    range_here d c.args.at end (omega (arith, c.in-Some.ensures.on))
    ∙ ap (λ l. l ++ drop end d) (sym c.in_ok-get.ensures.cases.0)

pub returns-clause-object : goal.returns-clause-object
returns-clause-object c =
    let end = c.in-Some.end in
    subst IsFlatText (sym c.in_ok-get.ensures.cases.0) (flat_range c.args.text.now c.args.at end
    (omega (arith, c.in-Some.ensures.on)) c.in-Some.ensures.within c.in-Some.ensures.object)
