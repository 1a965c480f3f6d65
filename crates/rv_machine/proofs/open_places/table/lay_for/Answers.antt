-- Where there is room, what laying it did was done.
use Rattle.std.proofs.lemmas.Result.{on_ok_weaker}
use Rattle.rv_machine.proofs.open_places.table.lay_for.Goals as goal

pub returns-in-Ok-clause-makes : goal.returns-in-Ok-clause-makes
returns-in-Ok-clause-makes c = c.reserve.ensures.makes

pub returns-in-Ok-clause-room : goal.returns-in-Ok-clause-room
returns-in-Ok-clause-room c = on_ok_weaker c.lay.result (λ laid. c.in-Ok.ensures.room) c.lay.ensures.opened

pub returns-in-Err-clause-makes : goal.returns-in-Err-clause-makes
returns-in-Err-clause-makes c = c.reserve.ensures.makes
