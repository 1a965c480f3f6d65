-- What stood before, and the lines of those that the loop passed.
use Rattle.std.proofs.Common.{◌≡◌, ◌++◌, take}
use Rattle.std.specs.Prelude.{flat_map, string_bytes}
use Rattle.rv_status.specs.Histograms.{bucket_text}
use Rattle.rv_status.proofs.metrics.put_buckets.Given as goal

abbrev pub invariant-loop-bucket : goal.invariant-loop-bucket
invariant-loop-bucket l = string_bytes l.text ≡ string_bytes l.initial.text ++ flat_map (bucket_text l.name)
    (take l.bucket-index l.buckets)
