-- The copies, and then what is left, are all clients.
use Rattle.std.proofs.Common.{◌≡◌, ◌++◌}
use Rattle.std.specs.FinMap.{entries}
use Rattle.rv_session.proofs.clients.Clients.states.Given as goal

abbrev pub invariant-loop-client : goal.invariant-loop-client
invariant-loop-client l = l.states.items ++ l.client-iterator ≡ entries l.self.clients
