-- The numbers, the items and the consumers come one after another.
use Rattle.std.proofs.lemmas.Result.{on_ok_weaker}
use Rattle.rv_status.proofs.Told.{metrics_told}
use Rattle.rv_status.proofs.metrics.put_all.Goals as goal

pub returns : goal.returns
returns c =
    on_ok_weaker c.put_family-2.result
    (metrics_told c.args.status.now _ c.as_slice.ensures.value
    _ c.as_slice-2.ensures.value _ _ _ _ c.in_ok-put_numbers.ensures
    c.in_ok-put_family.ensures) c.put_family-2.ensures
