-- The lines before the rest were taken.
use Rattle.std.proofs.Common.{◌≡◌, [], ℕ, List, Some}
use Rattle.rv_verify.specs.Stages.{AreNew}
use Rattle.rv_verify.proofs.Recorded.{Taken}
use Rattle.rv_verify.proofs.recording.take_lines.Given as goal

abbrev pub invariant-loop-turn : goal.invariant-loop-turn
invariant-loop-turn g l = record {
  taken : (bytes : List ℕ) → g.B.Read.remaining l.initial.reader ≡ Some bytes
      → l.initial.records.lines.items ≡ [] → Taken bytes l.records (g.B.Read.remaining l.reader);
  are_new : AreNew l.initial.records → AreNew l.records;
}
