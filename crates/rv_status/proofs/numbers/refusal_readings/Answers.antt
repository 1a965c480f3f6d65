-- Each reading says its row.
use Rattle.std.proofs.Common.{refl}
use Rattle.rv_status.proofs.numbers.refusal_readings.Goals as goal

pub returns : goal.returns
returns c = refl
