-- What stands after the first empty line of the rest stands after that of the whole.
use Rattle.std.proofs.Common.{◌≡◌, length}
use Rattle.rv_end.specs.Asking.{after_gap}
use Rattle.rv_end.proofs.answer.after_gap.Given as goal

abbrev pub invariant-loop-after : goal.invariant-loop-after
invariant-loop-after l = after_gap l.rest ≡ after_gap l.text

abbrev pub decreases-loop-after : goal.decreases-loop-after
decreases-loop-after l = length l.rest
