-- What is left when the first goes still rises.
use Rattle.rv_dual.proofs.Marks.{rises_behind}
use Rattle.rv_dual.proofs.line.SlotLine.pop.Goals as goal

pub trim-requires-clause-rises : goal.trim-requires-clause-rises
trim-requires-clause-rises g c = rises_behind g.T.StandsInLine.place_of c.self.inside.slots.items
    c.pop_front.new.self.items c.pop_front.result c.pop_front.ensures.items c.self.invariant.rises
