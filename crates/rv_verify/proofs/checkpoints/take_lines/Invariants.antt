-- The lines before the rest were taken.
use Rattle.std.proofs.Common.{◌≡◌, ℕ, List, Some}
use Rattle.rv_verify.proofs.Checkpointed.{TakenSo}
use Rattle.rv_verify.proofs.checkpoints.take_lines.Given as goal

abbrev pub invariant-loop-turn : goal.invariant-loop-turn
invariant-loop-turn g l = (bytes : List ℕ) → g.B.Read.remaining l.initial.reader ≡ Some bytes
    → TakenSo bytes l.said (g.B.Read.remaining l.reader)
