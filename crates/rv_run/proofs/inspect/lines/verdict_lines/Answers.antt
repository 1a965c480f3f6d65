-- After the verdict comes the line that says the end is torn.
use Rattle.std.proofs.Common.{string_bytes}
use Rattle.std.proofs.lemmas.Result.{IfOk-weaker}
use Rattle.rv_run.proofs.OfInspect.Printed.{torn_text}
use Rattle.rv_run.proofs.inspect.lines.verdict_lines.Goals as goal

pub returns-then-found : goal.returns-then-found
returns-then-found c = IfOk-weaker c.format.result _ _ (λ s is. torn_text c.args.found.now.verdict c.args.rule
    c.args.found.now.torn (string_bytes c.in_ok-verdict.verdict) (string_bytes s) c.if-found.true
    c.in_ok-verdict.ensures is) c.format.ensures.ok
