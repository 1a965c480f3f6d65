-- The request stays the same, keeps its limits, and was asked in vain as often as it was tried.
use Rattle.std.proofs.Common.{◌≡◌}
use Rattle.rv_text.specs.Limits.{FitsCall, FitsKey}
use Rattle.rv_client.specs.Calls.{AsksInVain}
use Rattle.rv_client.specs.Link.{link}
use Rattle.rv_client.proofs.calling.call.Given as goal

abbrev pub invariant-loop-tried : goal.invariant-loop-tried
invariant-loop-tried g l = record {
  same : l.outstanding ≡ l.initial.outstanding;
  key : FitsKey l.outstanding.key;
  call : FitsCall l.outstanding.call;
  in_vain : AsksInVain g.R.Read.remaining g.W.Write.contents l.initial.outstanding (link l.initial.source
      l.initial.sink) (link l.source l.sink) l._tried;
}
