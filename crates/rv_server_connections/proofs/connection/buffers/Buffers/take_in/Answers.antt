-- The bytes after the unread ones are one frame with them at most.
use Rattle.std.proofs.Common.{List, ℕ, rules, subst}
use Rattle.rv_server_connections.specs.connection.Fields.{LeavesOne, traffic_of}
use Rattle.rv_server_connections.proofs.OfConnection.Sizes.{taken_in}
use Rattle.rv_server_connections.proofs.connection.buffers.Buffers.take_in.Goals as goal

pub returns-clause-takes : goal.returns-clause-takes
returns-clause-takes c =
    taken_in (traffic_of c.args.self.now) c.args.piece.now c.wanted-count.result
    c.extend_from_slice.new.self.items
    (subst (λ (l : List ℕ). LeavesOne l c.args.piece.now c.wanted-count.result) c.deref.ensures.value
    c.wanted-count.ensures) (search rules)
