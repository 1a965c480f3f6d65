-- The buckets that the loop passed have observed the value.
use Rattle.std.proofs.Common.{◌≡◌, ◌++◌, drop, map, take}
use Rattle.rv_status.specs.Histograms.{observed}
use Rattle.rv_status.proofs.histogram.observe_each.Given as goal

abbrev pub invariant-loop-bucket : goal.invariant-loop-bucket
invariant-loop-bucket l = l.buckets ≡ map (observed l.value) (take l.bucket-index l.initial.buckets)
    ++ drop l.bucket-index l.initial.buckets
