-- The events so far lead to the world.
use Rattle.rv_world.proofs.OfParts.Words.{Runs}
use Rattle.std.proofs.Common.{take}
use Rattle.rv_world.proofs.runs.take_each.Given as goal

abbrev pub invariant-loop-i : goal.invariant-loop-i
invariant-loop-i l = Runs l.fn.world (take l.i l.events) l.world
