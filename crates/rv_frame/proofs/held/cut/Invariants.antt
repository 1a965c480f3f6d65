-- What was passed over are whole frames, and each turn passes one over.
use Rattle.std.proofs.Common.{◌-◌, length}
use Rattle.rv_frame.specs.Held.{FrontIsRow}
use Rattle.rv_frame.proofs.held.cut.Given as goal

abbrev pub invariant-loop-size : goal.invariant-loop-size
invariant-loop-size l = FrontIsRow l.bytes l.whole

abbrev pub decreases-loop-size : goal.decreases-loop-size
decreases-loop-size l = length l.bytes - l.whole
