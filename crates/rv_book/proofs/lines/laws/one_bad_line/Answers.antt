-- Of two bad lines the later one has the other before it.
use Rattle.rv_book.specs.lines.Reading.{account_limits}
use Rattle.rv_book.proofs.OfLines.OneReading.{bad_one}
use Rattle.rv_book.proofs.lines.laws.one_bad_line.Goals as goal

pub returns : goal.returns
returns c = bad_one account_limits
