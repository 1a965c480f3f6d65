-- Lines are read in one way.
use Rattle.rv_book.specs.lines.Reading.{account_limits}
use Rattle.rv_book.proofs.OfLines.OneReading.{account_one}
use Rattle.rv_book.proofs.lines.laws.one_account.Goals as goal

pub returns : goal.returns
returns c = account_one account_limits
