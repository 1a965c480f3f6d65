-- So far no frame was taken, nothing was written, and each turn leaves fewer bytes that the next frame can
-- want.
use Rattle.std.proofs.Common.{[]}
use Rattle.rv_frame.specs.Sink.{SinkTakes}
use Rattle.rv_server.specs.Reading.{ReadsOn}
use Rattle.rv_server.proofs.Intake.{wanted}
use Rattle.rv_server.proofs.inlet.Inlet.next_frame.Given as goal

abbrev pub invariant-loop-body : goal.invariant-loop-body
invariant-loop-body g l = record {
  reads : ReadsOn g.R.Read.remaining l.fn.source l.source l.fn.self l.self [];
  none_written : SinkTakes g.W.Write.contents l.fn.sink l.sink [];
}

abbrev pub decreases-loop-body : goal.decreases-loop-body
decreases-loop-body g l = wanted l.self
