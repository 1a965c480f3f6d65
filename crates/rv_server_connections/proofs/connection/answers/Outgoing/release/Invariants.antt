-- Some of what was held back may leave, and each pass lets an answer go.
use Rattle.std.proofs.Common.{length}
use Rattle.rv_server_connections.specs.connection.Answering.{FreesSome}
use Rattle.rv_server_connections.specs.connection.Fields.{IsSoundOutgoing}
use Rattle.rv_server_connections.proofs.connection.answers.Outgoing.release.Given as goal

abbrev pub invariant-loop : goal.invariant-loop
invariant-loop l = record {
  sound : IsSoundOutgoing l.self;
  freed : FreesSome l.written l.fn.self l.self;
}

abbrev pub decreases-loop : goal.decreases-loop
decreases-loop l = length l.self.marks.items
