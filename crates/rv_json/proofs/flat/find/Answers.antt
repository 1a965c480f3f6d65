-- From the end, one member after another: it has the name, or isn't looked for.
use Rattle.std.proofs.Common.{sym, ◌∙◌, arith}
use Rattle.rv_json.proofs.FlatPut.{last_of_front, rest_of_front}
use Rattle.rv_json.proofs.flat.find.Goals as goal

pub returns-then-eq : goal.returns-then-eq
returns-then-eq c =
    sym (c.places.invariant.0 ∙ last_of_front c.args.name.now c.args.fields.now c.places.left (omega arith)
    c.places.invariant.1 (sym c.eq.ensures ∙ c.if-eq.true))

pub places-preserved : goal.places-preserved
places-preserved c = (
  c.places.invariant.0 ∙ rest_of_front c.args.name.now c.args.fields.now c.places.left (omega arith)
      c.places.invariant.1 (sym c.eq.ensures ∙ c.if-eq.false),
  omega (arith, c.places.invariant.1),
)
