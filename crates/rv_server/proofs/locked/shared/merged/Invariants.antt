-- What was merged and what is left have all parts and the whole sum.
use Rattle.std.proofs.Common.{◌≡◌, ◌+◌, sum, vec_len}
use Rattle.rv_server.proofs.locked.shared.merged.Given as goal

abbrev pub invariant-loop-share : goal.invariant-loop-share
invariant-loop-share g l =
    (l.all.parts + vec_len l.seats ≡ vec_len l.fn.seats) × (l.all.amount + sum l.seats.items ≡ sum
    l.fn.seats.items)

abbrev pub decreases-loop-share : goal.decreases-loop-share
decreases-loop-share g l = goal.left-loop-share g l
