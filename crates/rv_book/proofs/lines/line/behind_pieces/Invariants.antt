-- The bytes before the rest lack the byte.
use Rattle.std.proofs.Common.{length}
use Rattle.rv_book.specs.lines.Pieces.{BehindLacking}
use Rattle.rv_book.proofs.lines.line.behind_pieces.Given as goal

abbrev pub invariant-loop-piece : goal.invariant-loop-piece
invariant-loop-piece l = BehindLacking l.byte l.bytes l.rest

abbrev pub decreases-loop-piece : goal.decreases-loop-piece
decreases-loop-piece l = length l.rest
