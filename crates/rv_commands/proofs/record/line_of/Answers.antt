-- The parts of the text are those of a record's line.
use Rattle.std.proofs.Common.{◌∙◌}
use Rattle.std.proofs.lemmas.Result.{IfOk-weaker}
use Rattle.rv_run.proofs.OfCalls.RecordsSoFar.{entry_line}
use Rattle.rv_commands.proofs.record.line_of.Goals as goal

pub returns : goal.returns
returns c = IfOk-weaker c.format.result _ _ (λ s same. same ∙ entry_line c.args.asked.now c.args.told.now)
    c.format.ensures.ok
