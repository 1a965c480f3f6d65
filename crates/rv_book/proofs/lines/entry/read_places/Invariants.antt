-- The places before the rest are read, and each turn reads one.
use Rattle.std.proofs.Common.{length}
use Rattle.rv_book.proofs.OfLines.Commas.{ListsPlaces}
use Rattle.rv_book.proofs.lines.entry.read_places.Given as goal

abbrev pub invariant-loop-piece : goal.invariant-loop-piece
invariant-loop-piece l = ListsPlaces l.greatest_place l.field l.rest l.places.items

abbrev pub decreases-loop-piece : goal.decreases-loop-piece
decreases-loop-piece l = length l.rest
