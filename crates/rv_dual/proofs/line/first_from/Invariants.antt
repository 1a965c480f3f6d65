-- Nobody waits in the slots that were passed over.
use Rattle.std.proofs.Common.{◌≡◌, drop}
use Rattle.rv_dual.specs.Slots.{waiting_in}
use Rattle.rv_dual.proofs.line.first_from.Given as goal

abbrev pub invariant-loop-index : goal.invariant-loop-index
invariant-loop-index g l = waiting_in (drop l.index l.fn.slots.items)
    ≡ waiting_in (drop l.fn.start l.fn.slots.items)
