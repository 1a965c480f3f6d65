-- A turn passes over a line more; it ends where none is left.
use Rattle.std.proofs.Common.{◌+◌, [], arith, refl}
use Rattle.rv_store.specs.WholeLines.{none_left}
use Rattle.rv_store.proofs.Resumed.{passes_more, passes_some}
use Rattle.rv_store.proofs.resuming.after_lines.Goals as goal

pub loop-left-preserved : goal.loop-left-preserved
loop-left-preserved c =
    let was = c.loop-left.invariant in (
      was.0 + 1,
      passes_more was.0 c.args.lines.now c.loop-left.rest.now c.in-Some.field-0-0.now c.in-Some.after.now
          was.1
          c.in-Some.ensures.parts c.in-Some.ensures.first,
      omega (arith, was.2, c.loop-left-test.true),
    )

pub returns-in-None : goal.returns-in-None
returns-in-None c =
    let was = c.loop-left.invariant in
    passes_some c.args.count c.loop-left.left was.0 c.args.lines.now c.loop-left.rest.now was.1 was.2
    (λ some. none_left c.loop-left.rest.now [] c.loop-left.rest.now was.1.rest_whole refl
    (c.in-None.ensures.none refl))
