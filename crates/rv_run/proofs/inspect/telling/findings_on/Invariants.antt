-- So far the findings on the first lines are there.
use Rattle.rv_run.specs.inspect.Report.{FindsFirst}
use Rattle.rv_run.proofs.inspect.telling.findings_on.Given as goal

abbrev pub invariant-loop-index : goal.invariant-loop-index
invariant-loop-index l = FindsFirst l.records l.epoch l.index l.findings.items
