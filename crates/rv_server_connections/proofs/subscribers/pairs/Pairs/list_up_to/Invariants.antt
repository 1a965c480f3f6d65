-- A front of the set's order is listed.
use Rattle.std.proofs.Common.{◌≡◌, vec_capacity}
use Rattle.rv_server_connections.proofs.OfSubscribers.Listed.{HasRead}
use Rattle.rv_server_connections.proofs.subscribers.pairs.Pairs.list_up_to.Given as goal

abbrev pub invariant-loop-number : goal.invariant-loop-number
invariant-loop-number l =
    HasRead l.self l.most l.list.items l.number-iterator × (vec_capacity l.list ≡ vec_capacity l.fn.list)
