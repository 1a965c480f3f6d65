-- By the seconds that are left.
use Rattle.std.proofs.Common.{string_bytes}
use Rattle.std.proofs.lemmas.Result.{IfOk-weaker}
use Rattle.rv_run.proofs.OfInspect.Printed.{left_text}
use Rattle.rv_run.proofs.inspect.progress.progress_text.Goals as goal

pub returns-clause-known : goal.returns-clause-known
returns-clause-known c some = IfOk-weaker c.format-2.result _ _ (λ s is. left_text c.args.lines c.args.bytes
    c.args.size c.args.seconds c.seconds_left-left.result (string_bytes s) c.seconds_left-left.ensures is)
    c.format-2.ensures.ok
