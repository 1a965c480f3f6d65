-- The lines before the rest have their results, and each turn gives one.
use Rattle.std.proofs.Common.{◌≡◌, length}
use Rattle.rv_frame.specs.Sink.{sink_contents, sink_failed}
use Rattle.rv_run.specs.Output.{gathered_bytes, sent_before}
use Rattle.rv_run.proofs.OfPlay.Playing.{SoFar}
use Rattle.rv_run.proofs.play.play_lines.Given as goal

abbrev pub invariant-loop-line : goal.invariant-loop-line
invariant-loop-line g l = record {
  so_far : SoFar (sink_contents g.W.Write.contents l.initial.sink) l.input (sink_contents g.W.Write.contents
      l.sink) l.world l.rest (gathered_bytes l.output) (sent_before l.output);
  unfailed : sink_failed l.sink ≡ sink_failed l.initial.sink;
}

abbrev pub decreases-loop-line : goal.decreases-loop-line
decreases-loop-line g l = length l.rest
