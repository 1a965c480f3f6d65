-- The first mark tells what the first held-back byte rests on.
use Rattle.std.proofs.Common.{rules, sym}
use Rattle.rv_server_connections.proofs.OfConnection.Marks.{is_first, rest_long, waits_first}
use Rattle.rv_server_connections.proofs.connection.answers.Outgoing.waits_for.Goals as goal

pub returns-in-Some : goal.returns-in-Some
returns-in-Some c =
    let marks = c.args.self.now.marks.items in
    let first = is_first marks c.in-Some.first.now (search rules) c.in-Some.ensures.lookup in
    sym (waits_first c.in-Some.first.now marks _ _ first c.requires.none_empty
    (rest_long c.args.self.now c.requires))
