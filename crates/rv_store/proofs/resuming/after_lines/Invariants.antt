-- So many lines were passed over.
use Rattle.std.proofs.Common.{◌≡◌, ◌+◌, ℕ}
use Rattle.rv_store.specs.Resuming.{PassesLines}
use Rattle.rv_store.proofs.resuming.after_lines.Given as goal

abbrev pub invariant-loop-left : goal.invariant-loop-left
invariant-loop-left l = (n : ℕ) × PassesLines n l.fn.lines l.rest × (n + l.left ≡ l.fn.count)

abbrev pub decreases-loop-left : goal.decreases-loop-left
decreases-loop-left l = l.left
