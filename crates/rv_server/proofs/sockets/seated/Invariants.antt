-- Each seat has gone to a worker, or is still there.
use Rattle.std.proofs.Common.{◌≡◌, ◌+◌, vec_len}
use Rattle.std.specs.Vec.{vec_capacity}
use Rattle.rv_server.proofs.sockets.seated.Given as goal

abbrev pub invariant-loop-seat : goal.invariant-loop-seat
invariant-loop-seat g l =
    (vec_len l.workers + vec_len l.seats ≡ vec_len l.initial.seats)
    × (vec_capacity l.seats ≡ vec_capacity l.initial.seats)
    × (vec_capacity l.workers ≡ vec_capacity l.initial.workers)

abbrev pub decreases-loop-seat : goal.decreases-loop-seat
decreases-loop-seat g l = vec_len l.seats
