-- Where the list isn't one of rows nothing is told.
use Rattle.std.proofs.Common.{ap, Err, refl}
use Rattle.serde_json.specs.View.{view}
use Rattle.rv_end.proofs.Asked.{fault_told}
use Rattle.rv_end.proofs.Rows.{rows_told}
use Rattle.rv_end.specs.Told.{Tells}
use Rattle.rv_end.proofs.told.told_in.Goals as goal

pub returns-in-Err : goal.returns-in-Err
returns-in-Err c = fault_told (Tells (view c.args.value.now)) c.in-Err.fault
    (λ is told tells. c.in-Err.ensures.other (ap Err is) told.unheard.items
    (record { are = rows_told _ _ _ c.in-Some-Some-Some.ensures'' tells.rows; keyed = tells.keyed }))
    (λ other. c.in-Err.ensures.sure c.in-Err.fault refl other)
