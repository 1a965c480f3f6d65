-- By the four parts of the counts.
use Rattle.std.proofs.Common.{string_bytes}
use Rattle.std.proofs.lemmas.Result.{IfOk-weaker}
use Rattle.rv_run.proofs.OfInspect.Printed.{counts_printed}
use Rattle.rv_run.proofs.inspect.lines.count_lines.Goals as goal

pub returns : goal.returns
returns c = IfOk-weaker c.format.result _ _ (λ s is. counts_printed c.args.findings.now c.args.differing
    c.args.repeating _ _ _ _ (string_bytes s) c.in_ok-kept.ensures c.in_ok-first.ensures c.in_ok-next.ensures
    c.in_ok-last.ensures is) c.format.ensures.ok
