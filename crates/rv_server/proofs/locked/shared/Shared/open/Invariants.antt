-- Each seat that was made has one part, and no share yet; the rest has all other parts.
use Rattle.std.proofs.Common.{◌≡◌, ◌≤◌, ◌+◌, All, vec_len, vec_capacity, ◌-◌}
use Rattle.rv_server.proofs.locked.shared.Shared.open.Given as goal

abbrev pub invariant-loop-all : goal.invariant-loop-all
invariant-loop-all g l =
    (vec_len l.seats + l.all.parts ≡ l.fn.workers) × (1 ≤ l.all.parts) × (l.all.amount ≡ 0)
    × All (λ share. share ≡ 0) l.seats.items × (l.fn.workers ≤ vec_capacity l.seats) × (l.total.total ≡ 0)

abbrev pub decreases-loop-all : goal.decreases-loop-all
decreases-loop-all g l = l.fn.workers - vec_len l.seats
