-- A piece is torn where it is read as no entry.
use Rattle.rv_text.specs.Members.{max_identifier}
use Rattle.rv_book.specs.lines.Reading.{ReadsEntryUpTo}
use Rattle.rv_verify.proofs.Told.{read_there}
use Rattle.rv_verify.proofs.torn.is_torn.Goals as goal

pub returns-clause-yes : goal.returns-clause-yes
returns-clause-yes c told = c.read_entry-read.ensures.bad (c.tells_torn.ensures.yes told)

pub returns-clause-no : goal.returns-clause-no
returns-clause-no c told =
    read_there c.read_entry-read.result (ReadsEntryUpTo max_identifier c.args.piece.now)
    (c.tells_torn.ensures.no told) c.read_entry-read.ensures.reads
