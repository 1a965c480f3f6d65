-- None of no lines stands so, and a line more does or doesn't.
use Rattle.std.proofs.Common.{arith}
use Rattle.rv_run.proofs.OfInspect.Counted.{none_counted}
use Rattle.rv_run.proofs.inspect.telling.count_beside.Goals as goal

pub loop-index-init : goal.loop-index-init
loop-index-init c = record { few = omega arith; are = none_counted c.args.how c.args.records.now }

pub loop-index-preserved : goal.loop-index-preserved
loop-index-preserved c = record {
  few = c.with_line-count.ensures.few;
  are = c.with_line-count.ensures.counted c.loop-index.invariant.are;
}
