-- The device took the first `sent` bytes, no write failed so far, and each turn takes at least one byte.
use Rattle.std.proofs.Common.{◌≡◌, ◌-◌, ◌≤◌, false, length, take}
use Rattle.std.specs.Io.KnownBytes.{Appends}
use Rattle.rv_frame.specs.Sink.{sink_contents, sink_failed}
use Rattle.rv_frame.proofs.sink.Sink.write_all.Given as goal

abbrev pub invariant-loop-sent : goal.invariant-loop-sent
invariant-loop-sent g l = record {
  within : l.sent ≤ length l.bytes;
  unfailed : sink_failed l.self ≡ false;
  took : Appends (sink_contents g.W.Write.contents l.initial.self) (sink_contents g.W.Write.contents l.self)
      (take l.sent l.bytes);
}

abbrev pub decreases-loop-sent : goal.decreases-loop-sent
decreases-loop-sent g l = length l.bytes - l.sent
