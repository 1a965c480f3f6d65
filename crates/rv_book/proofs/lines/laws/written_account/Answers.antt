-- It is within the limits of lines.
use Rattle.rv_book.proofs.OfLines.Booked.{account_again}
use Rattle.rv_book.proofs.lines.laws.written_account.Goals as goal

pub returns : goal.returns
returns c = account_again
