-- The values come after their head.
use Rattle.std.proofs.lemmas.Result.{on_ok_weaker}
use Rattle.rv_status.proofs.Told.{family_told}
use Rattle.rv_status.proofs.metrics.put_family.Goals as goal

pub returns : goal.returns
returns c =
    on_ok_weaker c.put_values.result
    (family_told c.args.side c.args.rows.now _ _ c.name.ensures c.help.ensures _ _ _
    c.in_ok-put_head.ensures) c.put_values.ensures
