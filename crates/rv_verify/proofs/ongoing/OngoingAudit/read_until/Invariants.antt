-- All lines before what is left were read.
use Rattle.std.proofs.Common.{◌≡◌, ◌++◌, ℕ, List, Some}
use Rattle.rv_verify.specs.Ongoing.{CanGoOn, HasReadPart}
use Rattle.rv_verify.proofs.Running.{Runs}
use Rattle.rv_verify.proofs.ongoing.OngoingAudit.read_until.Given as goal

abbrev pub invariant-loop-turn : goal.invariant-loop-turn
invariant-loop-turn g l = record {
  ready : CanGoOn l.self;
  lines : l.records.lines ≡ l.initial.records.lines;
  runs : (before : List (List ℕ)) (bytes : List ℕ) → HasReadPart before l.initial.self l.initial.records
      → g.B.Read.remaining l.initial.reader ≡ Some bytes
      → Runs l.until before (l.initial.self.piece.items ++ bytes) l.self l.records
      (g.B.Read.remaining l.reader);
}
