use Rattle.std.proofs.Common.{length}
use Rattle.rv_server_connections.specs.Table.{get}
use Rattle.rv_server_connections.specs.Fields.{IsReaching}
use Rattle.rv_server_connections.proofs.slots.Slots.release_reached.Given as goal

abbrev pub invariant-loop-connection : goal.invariant-loop-connection
invariant-loop-connection l = IsReaching l.written (get l.fn.self.slots) l.self

abbrev pub decreases-loop-connection : goal.decreases-loop-connection
decreases-loop-connection l = length l.self.reached.items
