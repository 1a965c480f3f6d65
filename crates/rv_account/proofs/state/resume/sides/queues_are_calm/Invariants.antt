-- Those before are calm.
use Rattle.std.proofs.Common.{ℕ, ◌<◌}
use Rattle.rv_account.specs.state.resume.Checking.{IsCalmQueue}
use Rattle.rv_account.proofs.state.resume.sides.queues_are_calm.Given as goal

abbrev pub invariant-loop-queue : goal.invariant-loop-queue
invariant-loop-queue l = (queue : ℕ) → queue < l.queue → IsCalmQueue l.opens queue
