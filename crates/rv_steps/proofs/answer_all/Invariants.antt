-- Each line leaves less.
use Rattle.std.proofs.Common.{length}
use Rattle.rv_steps.proofs.answer_all.Given as goal

abbrev pub invariant-loop-line : goal.invariant-loop-line
invariant-loop-line l = Unit {0}

abbrev pub decreases-loop-line : goal.decreases-loop-line
decreases-loop-line l = length l.rest
