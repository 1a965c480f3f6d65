use Rattle.std.proofs.Common.{◌≡◌, length, take}
use Rattle.rv_server_connections.specs.Connections.{ListsAll}
use Rattle.rv_server_connections.specs.Noting.{IsChanges}
use Rattle.rv_server_connections.proofs.changes.ChangeList.mark_all.Given as goal

abbrev pub invariant-loop-number : goal.invariant-loop-number
invariant-loop-number l =
    IsChanges l.self × (length l.self.flags.items ≡ length l.fn.self.flags.items)
    × ListsAll l.fn.self.numbers.items (take l.number-index l.numbers) l.self.numbers.items
