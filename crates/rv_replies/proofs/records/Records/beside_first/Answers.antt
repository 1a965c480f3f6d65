-- The line tells one reply.
use Rattle.std.proofs.Common.{Some, ap, ◌∙◌}
use Rattle.rv_replies.proofs.FirstLines.{stands_one}
use Rattle.rv_replies.proofs.records.Records.beside_first.Goals as goal

pub returns-in-Told-clause-told : goal.returns-in-Told-clause-told
returns-in-Told-clause-told c a told at noted =
    let there = c.line.ensures ∙ ap Some c.in-Told.is in
    stands_one c.args.self.now.lines.items c.args.index c.in-Told.told told c.told_beside.result there at
    (c.told_beside.ensures a there noted)
