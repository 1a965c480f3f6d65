-- The first mark is that of the first held-back byte.
use Rattle.std.proofs.Common.{arith, rules}
use Rattle.rv_server_connections.proofs.OfConnection.Marks.{count_first, holds_first, is_first, rest_long}
use Rattle.rv_server_connections.proofs.connection.answers.Outgoing.release_first.Goals as goal

pub returns-then-written-first-clause-held_back : goal.returns-then-written-first-clause-held_back
returns-then-written-first-clause-held_back c =
    let marks = c.args.self.now.marks.items in
    let first = is_first marks c.in-Some.first.now (search rules) c.in-Some.ensures.lookup in
    holds_first c.args.written c.in-Some.first.now marks _ _ first c.requires.none_empty
    (rest_long c.args.self.now c.requires) c.if-written-first.true

pub overflow_add-self : goal.overflow_add-self
overflow_add-self c =
    let marks = c.args.self.now.marks.items in
    let first = is_first marks c.in-Some.first.now (search rules) c.in-Some.ensures.lookup in
    omega (arith, c.requires.all, c.requires.short, count_first marks _ c.in-Some.first.now first)
