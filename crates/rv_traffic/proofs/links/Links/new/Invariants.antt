use Rattle.std.proofs.Common.{◌≤◌, ◌-◌, length, vec_capacity}
use Rattle.rv_traffic.proofs.OfLinks.Empty.{AreNone}
use Rattle.rv_traffic.proofs.links.Links.new.Given as goal

abbrev pub invariant-loop-table : goal.invariant-loop-table
invariant-loop-table g l =
    AreNone l.table.items × (length l.table.items ≤ l.most) × (l.most ≤ vec_capacity l.table)

abbrev pub decreases-loop-table : goal.decreases-loop-table
decreases-loop-table g l = l.most - length l.table.items
