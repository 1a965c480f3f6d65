-- The lines so far end before the next byte.
use Rattle.std.proofs.Common.{◌≤◌}
use Rattle.rv_app.proofs.journal.front_of.Given as goal

abbrev pub invariant-loop-i : goal.invariant-loop-i
invariant-loop-i l = l.front.bytes ≤ l.i
