-- All of a new engine is written, and stored.
use Rattle.std.proofs.Common.{arith, refl}
use Rattle.rv_host.proofs.Opened.{begins_new}
use Rattle.rv_host.proofs.start.engine_over.Goals as goal

pub returns-clause-begins : goal.returns-clause-begins
returns-clause-begins c = begins_new _ _ _ _ c.in_ok-engine.ensures.state refl (omega arith)
