-- So far those of the first lines that stand so are counted.
use Rattle.std.proofs.Common.{◌≤◌}
use Rattle.rv_run.specs.inspect.Report.{CountsBeside}
use Rattle.rv_run.proofs.inspect.telling.count_beside.Given as goal

abbrev pub invariant-loop-index : goal.invariant-loop-index
invariant-loop-index l = record {
  few : l.count ≤ l.index;
  are : CountsBeside l.how l.records l.index l.count;
}
