-- The sum stands between both counts.
use Rattle.std.proofs.Common.{[], ◌∷◌, ◌++◌, codes}
use Rattle.std.specs.Prelude.{decimal}
use Rattle.std.proofs.lemmas.Result.{on_ok_weaker}
use Rattle.rv_status.specs.Histograms.{seconds_text}
use Rattle.rv_status.proofs.Told.{between}
use Rattle.rv_status.proofs.metrics.put_totals.Goals as goal

pub returns : goal.returns
returns c =
    on_ok_weaker c.write-2.result
    (between (c.args.name.now ++ ((codes "_bucket{le=" ++ 34 ∷ (codes "+Inf" ++ 34 ∷ codes "} "))
    ++ (decimal c.args.histogram.now.count ++ ((10 ∷ []) ++ (c.args.name.now ++ codes "_sum ")))))
    (seconds_text c.args.histogram.now.sum)
    ((10 ∷ []) ++ (c.args.name.now ++ (codes "_count " ++ (decimal c.args.histogram.now.count ++ 10 ∷ []))))
    _ _ _ _ c.in_ok-write.ensures.bytes c.in_ok-put_seconds.ensures) c.write-2.ensures.bytes
