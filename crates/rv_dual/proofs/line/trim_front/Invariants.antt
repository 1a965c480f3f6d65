-- What waits is the same, and the marks that are left rise.
use Rattle.std.proofs.Common.{◌≡◌}
use Rattle.rv_dual.specs.Room.{KeepsRoom, room_in}
use Rattle.rv_dual.specs.Slots.{Rises, waiting_in}
use Rattle.std.specs.VecDeque.{deque_len}
use Rattle.rv_dual.proofs.line.trim_front.Given as goal

abbrev pub invariant-loop-slots : goal.invariant-loop-slots
invariant-loop-slots g l = record {
  same : waiting_in l.slots.items ≡ waiting_in l.fn.slots.items;
  rises : Rises g.T.StandsInLine.place_of l.slots.items;
  room : KeepsRoom (room_in l.fn.slots) (room_in l.slots);
}

abbrev pub decreases-loop-slots : goal.decreases-loop-slots
decreases-loop-slots g l = deque_len l.slots
