-- The lines of the entries before the place are written, and each turn writes one.
use Rattle.std.proofs.Common.{◌≡◌, ◌-◌, ◌+◌, length}
use Rattle.rv_frame.specs.Sink.{sink_contents, sink_failed}
use Rattle.rv_run.specs.Output.{gathered_bytes, sent_before}
use Rattle.rv_app.proofs.Writing.{Wrote}
use Rattle.rv_app.proofs.account.write_lines.Given as goal

abbrev pub invariant-loop-entry : goal.invariant-loop-entry
invariant-loop-entry g l = record {
  wrote : Wrote (sink_contents g.W.Write.contents l.fn.sink) l.account.account
      (sink_contents g.W.Write.contents l.sink) l.place (gathered_bytes l.output) (sent_before l.output);
  unfailed : sink_failed l.sink ≡ sink_failed l.fn.sink;
}

abbrev pub decreases-loop-entry : goal.decreases-loop-entry
decreases-loop-entry g l = length l.account.account.entries + 1 - l.place
