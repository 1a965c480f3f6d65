-- So far the first lines, and those on the lines of the record before the index, went out or wait.
use Rattle.std.proofs.Common.{◌≡◌}
use Rattle.rv_frame.specs.Sink.{sink_contents, sink_failed}
use Rattle.rv_run.specs.Output.{gathered_bytes, sent_before}
use Rattle.rv_run.proofs.OfInspect.Reported.{SoFar}
use Rattle.rv_run.proofs.inspect.telling.tell_lines.Given as goal

abbrev pub invariant-loop-index : goal.invariant-loop-index
invariant-loop-index g l = record {
  so_far : SoFar l.records l.findings l.first (sink_contents g.W.Write.contents l.fn.sink)
      (sink_contents g.W.Write.contents l.sink) l.index (gathered_bytes l.output) (sent_before l.output);
  unfailed : sink_failed l.sink ≡ sink_failed l.fn.sink;
}
