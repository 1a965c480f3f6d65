-- The line's key is known.
use Rattle.rv_replies.proofs.Taking.{noted_line}
use Rattle.rv_replies.proofs.records.Records.fate.Goals as goal

pub returns-in-Told : goal.returns-in-Told
returns-in-Told c a told at noted =
    noted_line c.args.self.now a c.args.index c.line.result.now c.in-Told.told told c.line.ensures
    c.in-Told.is at noted _ c.get.ensures
