-- First lines of an account are read as an account.
use Rattle.rv_book.specs.lines.Reading.{account_limits}
use Rattle.rv_book.proofs.OfLines.OneReading.{read_has_no_bad}
use Rattle.rv_book.proofs.lines.laws.no_bad_line.Goals as goal

pub returns : goal.returns
returns c = read_has_no_bad account_limits
