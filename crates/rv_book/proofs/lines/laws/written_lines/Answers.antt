-- Each line is read back.
use Rattle.rv_book.proofs.OfLines.ReadBack.{lines_again}
use Rattle.rv_book.proofs.lines.laws.written_lines.Goals as goal

pub returns : goal.returns
returns c = lines_again
