-- So far each answer was one that waits, and nothing was written.
use Rattle.std.proofs.Common.{[]}
use Rattle.rv_frame.specs.Sink.{SinkTakes}
use Rattle.rv_server.specs.Asking.{OnlyWaited}
use Rattle.rv_server.specs.locked.Stamps.{shown_stamps}
use Rattle.rv_server.proofs.context.WorkerContext.ask.Given as goal

abbrev pub invariant-loop-paused : goal.invariant-loop-paused
invariant-loop-paused g l = record {
  waited : OnlyWaited l.number l.body l.fn.seat (shown_stamps g.D.Desk.stamped l.fn.stamps.items) l.seat
      (shown_stamps g.D.Desk.stamped l.stamps.items);
  none_written : SinkTakes g.W.Write.contents l.fn.sink l.sink [];
}
