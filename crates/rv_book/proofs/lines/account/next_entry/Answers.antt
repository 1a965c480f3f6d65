-- A line that is read as no entry is read as none more.
use Rattle.std.proofs.Common.{Err, ap, inr}
use Rattle.rv_book.proofs.lines.account.next_entry.Goals as goal

pub returns-in-Err-Bad-clause-bad : goal.returns-in-Err-Bad-clause-bad
returns-in-Err-Bad-clause-bad c n is = inr (c.in-Err-Bad.ensures.bad (ap Err c.in-Err-Bad.field-0-is))
