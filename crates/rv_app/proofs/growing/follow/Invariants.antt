-- The audit can read on, and all before what is left was read and is legal.
use Rattle.std.proofs.Common.{◌≡◌, IfSome}
use Rattle.std.specs.Io.Buffered.{reader_remaining}
use Rattle.rv_verify.specs.Ongoing.{CanGoOn}
use Rattle.rv_app.proofs.Following.{SoFar}
use Rattle.rv_app.proofs.growing.follow.Given as goal

abbrev pub invariant-loop : goal.invariant-loop
invariant-loop g l = record {
  ready : CanGoOn l.audit;
  lines : l.records.lines ≡ l.fn.records.lines;
  read : IfSome (g.F.Read.remaining l.fn.file)
      (λ bytes. SoFar bytes l.audit l.records (reader_remaining g.F.Read.remaining l.reader));
}
