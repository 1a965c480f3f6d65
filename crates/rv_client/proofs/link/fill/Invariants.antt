-- The bytes before `filled` are what the source gave, no read failed so far, and each turn takes at least one
-- byte.
use Rattle.std.proofs.Common.{◌≡◌, ◌-◌, ◌<◌, ◌≤◌, false, length, take}
use Rattle.rv_frame.specs.Source.{SourceGives, source_failed}
use Rattle.rv_client.proofs.link.fill.Given as goal

abbrev pub invariant-loop-filled : goal.invariant-loop-filled
invariant-loop-filled g l = record {
  within : l.filled ≤ length l.buffer;
  given : SourceGives g.R.Read.remaining l.initial.source l.source (take l.filled l.buffer);
  same : source_failed l.source ≡ source_failed l.initial.source;
  first : l.filled ≡ 0 → l.source ≡ l.initial.source;
  unfailed : 0 < l.filled → source_failed l.source ≡ false;
}

abbrev pub decreases-loop-filled : goal.decreases-loop-filled
decreases-loop-filled g l = length l.initial.buffer - l.filled
