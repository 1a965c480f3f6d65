-- A mark that goes leaves those who wait as they are, and the other places rise.
use Rattle.std.proofs.Common.{◌∙◌, sym, arith}
use Rattle.rv_dual.proofs.Marks.{same_behind, rises_behind}
use Rattle.rv_dual.proofs.line.trim_front.Goals as goal

pub loop-slots-preserved-in-loop-slots-2 : goal.loop-slots-preserved-in-loop-slots-2
loop-slots-preserved-in-loop-slots-2 g c = record {
  same = same_behind c.loop-slots.slots.items c.pop_front.new.self.items c.pop_front.result
      c.pop_front.ensures.items (sym c.front_is_marked.ensures ∙ c.loop-slots-test.true)
      ∙ c.loop-slots.invariant.same;
  rises = rises_behind g.T.StandsInLine.place_of c.loop-slots.slots.items c.pop_front.new.self.items
      c.pop_front.result c.pop_front.ensures.items c.loop-slots.invariant.rises;
  room = record {
    spare = omega (
      arith,
      c.loop-slots.invariant.room.spare,
      c.pop_front.ensures.capacity,
      c.pop_front.ensures.len,
    );
    capacity = c.pop_front.ensures.capacity ∙ c.loop-slots.invariant.room.capacity;
  };
}
