-- None of the entries before met one, and the others are read of the rest.
use Rattle.std.proofs.Common.{◌≡◌, ◌<◌, ℕ, List, Some, length}
use Rattle.rv_account.specs.declared.entry.Entry.{Entry}
use Rattle.rv_book.specs.lines.Lines.{lines}
use Rattle.rv_verify.specs.Naming.{AreReadAs}
use Rattle.rv_verify.proofs.Again.{Again}
use Rattle.rv_verify.proofs.naming.read_met.Given as goal

abbrev pub invariant-loop-index : goal.invariant-loop-index
invariant-loop-index g l = (bytes : List ℕ) (es : List Entry)
    → g.B.Read.remaining l.initial.reader ≡ Some bytes
    → AreReadAs (lines bytes) es → length es < length (lines bytes) → length es ≡ l.place
    → Again l.named es l.index (g.B.Read.remaining l.reader)
