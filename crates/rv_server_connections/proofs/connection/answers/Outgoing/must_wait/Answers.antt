-- Nothing is held back where no mark is.
use Rattle.std.proofs.Common.{length, rules, ◌==◌, ◌≡◌}
use Rattle.rv_server_connections.proofs.OfConnection.Marks.{may_leave}
use Rattle.rv_server_connections.proofs.connection.answers.Outgoing.must_wait.Goals as goal

pub returns-else-written-entries-clause-no : goal.returns-else-written-entries-clause-no
returns-else-written-entries-clause-no c =
    let none : c.is_empty.result ≡ (length c.args.self.now.marks.items == 0) = search rules in
    may_leave c.args.written c.args.entries c.args.self.now.marks.items c.is_empty.result
    c.if-written-entries.false none
