-- The lines before the rest are answered, and each turn answers one.
use Rattle.std.proofs.Common.{◌≡◌, length}
use Rattle.rv_frame.specs.Sink.{sink_contents, sink_failed}
use Rattle.rv_run.specs.Output.{gathered_bytes, sent_before}
use Rattle.rv_run.specs.turns.Unanswered.{unanswered}
use Rattle.rv_run.proofs.OfTurns.Progress.{Progress}
use Rattle.rv_run.proofs.turns.run.answer_lines.Given as goal

abbrev pub invariant-loop-line : goal.invariant-loop-line
invariant-loop-line g l = record {
  progress : Progress (sink_contents g.W.Write.contents l.initial.sink) l.initial.book
      (unanswered l.initial.input)
      (sink_contents g.W.Write.contents l.sink) l.book (unanswered l.input) (gathered_bytes l.output)
      (sent_before l.output);
  unfailed : sink_failed l.sink ≡ sink_failed l.initial.sink;
}

abbrev pub decreases-loop-line : goal.decreases-loop-line
decreases-loop-line g l = length (unanswered l.input)
