-- A mark that goes leaves those who wait as they are, and the other places rise.
use Rattle.std.proofs.Common.{◌∙◌, sym, ap, length, length-append, arith}
use Rattle.std.specs.Prelude.{option_to_list}
use Rattle.rv_dual.proofs.Marks.{first_before, same_before, rises_before}
use Rattle.rv_dual.proofs.line.trim_back.Goals as goal

pub loop-slots-preserved-in-loop-slots-2 : goal.loop-slots-preserved-in-loop-slots-2
loop-slots-preserved-in-loop-slots-2 g c = record {
  same = same_before c.loop-slots.slots.items c.pop_back.new.self.items c.pop_back.result
      c.pop_back.ensures.items (sym c.back_is_marked.ensures ∙ c.loop-slots-test.true)
      ∙ c.loop-slots.invariant.same;
  rises = rises_before g.T.StandsInLine.place_of c.loop-slots.slots.items c.pop_back.new.self.items
      c.pop_back.result c.pop_back.ensures.items c.loop-slots.invariant.rises;
  first = first_before c.loop-slots.slots.items c.pop_back.new.self.items c.pop_back.result
      c.pop_back.ensures.items c.loop-slots.invariant.first;
  room = record {
    spare = omega (
      arith,
      c.loop-slots.invariant.room.spare,
      c.pop_back.ensures.capacity,
      ap length
          c.pop_back.ensures.items,
      length-append c.pop_back.new.self.items (option_to_list c.pop_back.result),
      c.loop-slots.slots.ok.0,
      c.pop_back.new.self.ok.0,
    );
    capacity = c.pop_back.ensures.capacity ∙ c.loop-slots.invariant.room.capacity;
  };
}
