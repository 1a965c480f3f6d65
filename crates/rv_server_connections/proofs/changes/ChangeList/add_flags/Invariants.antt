use Rattle.std.proofs.Common.{◌≡◌, ◌≤◌, ◌-◌, length, vec_capacity}
use Rattle.rv_server_connections.specs.Noting.{IsChanges}
use Rattle.rv_server_connections.proofs.changes.ChangeList.add_flags.Given as goal

abbrev pub invariant-loop-self : goal.invariant-loop-self
invariant-loop-self l =
    IsChanges l.self × (l.self.numbers ≡ l.fn.self.numbers) × (length l.fn.self.flags.items ≤ length
    l.self.flags.items)
    × (l.room ≤ vec_capacity l.self.flags)

abbrev pub decreases-loop-self : goal.decreases-loop-self
decreases-loop-self l = l.room - length l.self.flags.items
