-- What was copied, and after it what is left, are all that is open.
use Rattle.std.proofs.Common.{◌≡◌, ◌++◌}
use Rattle.rv_machine.proofs.open_places.opens.OpenMap.copies.Given as goal

abbrev pub invariant-loop-opened : goal.invariant-loop-opened
invariant-loop-opened l = l.places.items ++ l.opened-iterator ≡ l.fn.self
