-- So many items were taken as there were passes.
use Rattle.rv_machine.proofs.TakenAll.{TookSoMany}
use Rattle.rv_machine.proofs.tables.Holdings.take_items.Given as goal

abbrev pub invariant-loop-taken : goal.invariant-loop-taken
invariant-loop-taken l = TookSoMany l.initial.self l.self l.queue l.count l._taken l.taker l.items l.places
