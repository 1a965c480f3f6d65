-- Each finding is added to those on the lines before.
use Rattle.std.proofs.Common.{◌+◌, List, subst, sym}
use Rattle.rv_replies.specs.declared.findings.Finding.{Finding}
use Rattle.rv_run.specs.inspect.Report.{FindsFirst}
use Rattle.rv_run.proofs.OfInspect.Finding.{finds_more}
use Rattle.rv_run.proofs.inspect.telling.findings_on.Goals as goal

pub loop-index-preserved : goal.loop-index-preserved
loop-index-preserved c =
    subst (λ (fs : List Finding). FindsFirst c.args.records.now c.args.epoch (c.loop-index.index + 1) fs)
    (sym c.in_ok-add.ensures) (finds_more c.args.records.now c.args.epoch c.loop-index.index
    c.loop-index.findings.items c.finding.result c.loop-index.invariant
    (λ a own there. c.finding.ensures a own there))
