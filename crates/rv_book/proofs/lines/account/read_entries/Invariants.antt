-- The lines before the rest are read as the entries, and each turn reads one.
use Rattle.std.proofs.Common.{length}
use Rattle.rv_book.specs.lines.Reading.{account_limits}
use Rattle.rv_book.proofs.OfLines.Turns.{Read}
use Rattle.rv_book.proofs.lines.account.read_entries.Given as goal

abbrev pub invariant-loop-line : goal.invariant-loop-line
invariant-loop-line l = Read account_limits l.input l.rest l.entries.items

abbrev pub decreases-loop-line : goal.decreases-loop-line
decreases-loop-line l = length l.rest
