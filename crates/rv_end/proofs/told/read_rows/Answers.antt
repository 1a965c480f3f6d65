-- Where one value is no row they are no rows.
use Rattle.std.proofs.Common.{refl}
use Rattle.rv_end.proofs.Rows.{no_rows}
use Rattle.rv_end.proofs.told.read_rows.Goals as goal

pub returns-in_default-clause-other : goal.returns-in_default-clause-other
returns-in_default-clause-other c refused rows are =
    no_rows c.args.values.now c.loop-value.value-index c.value-item.result c.loop-value-test.true
    c.value-item.is (c.in_default.ensures.none refl) rows are
