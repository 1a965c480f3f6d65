use Rattle.std.proofs.Common.{◌≡◌, length}
use Rattle.rv_server_connections.specs.Noting.{IsChanges}
use Rattle.rv_server_connections.proofs.changes.ChangeList.clear.Given as goal

abbrev pub invariant-loop-number : goal.invariant-loop-number
invariant-loop-number l = IsChanges l.self × (length l.self.flags.items ≡ length l.fn.self.flags.items)

abbrev pub decreases-loop-number : goal.decreases-loop-number
decreases-loop-number l = length l.self.numbers.items
