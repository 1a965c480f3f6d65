-- Partners stand before their places.
use Rattle.rv_book.proofs.OfLines.Booked.{book_fits_lines}
use Rattle.rv_book.proofs.lines.laws.book_fits_lines.Goals as goal

pub returns : goal.returns
returns c = book_fits_lines
