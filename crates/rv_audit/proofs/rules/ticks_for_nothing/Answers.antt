use Rattle.rv_audit.proofs.Telling.{for_nothing}
use Rattle.rv_audit.proofs.rules.ticks_for_nothing.Goals as goal

pub returns-in-Tick : goal.returns-in-Tick
returns-in-Tick c = for_nothing _ c.args.entry.now c.has_due.result c.in-Tick.is c.has_due.ensures
