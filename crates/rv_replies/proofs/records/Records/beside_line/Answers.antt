-- The line tells one reply.
use Rattle.rv_replies.proofs.FirstLines.{beside_one}
use Rattle.rv_replies.proofs.records.Records.beside_line.Goals as goal

pub returns-in-Some : goal.returns-in-Some
returns-in-Some c own there =
    beside_one c.args.self.now.lines.items c.args.first c.args.index c.in-Some.own.now own c.args.told.now
    c.compared.result c.in-Some.ensures.some there c.compared.ensures
