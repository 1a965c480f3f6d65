-- Who arrives is the last that waits, and its place is above every slot's.
use Rattle.std.proofs.Common.{◌+◌, ◌<◌, List, sym, ap, ◌∙◌, subst, arith}
use Rattle.std.specs.List.{All}
use Rattle.rv_dual.specs.declared.slot.Slot.{Slot}
use Rattle.rv_dual.specs.Slots.{IsSlotLine, WaitingLine, waiting_in}
use Rattle.rv_dual.proofs.Arriving.{fewer, line_with, waiting_with}
use Rattle.rv_dual.proofs.line.SlotLine.push.Goals as goal

pub overflow_add-self : goal.overflow_add-self
overflow_add-self g c = omega (
  arith,
  c.self.invariant.counted,
  fewer c.self.inside.slots.items,
  c.self.inside.slots.ok.0,
  c.self.inside.slots.small.0,
  c.self.inside.slots.small.1,
)

pub invariant_of-self : goal.invariant_of-self
invariant_of-self g c =
    subst (λ (l : List (Slot _)). IsSlotLine g.T.StandsInLine.place_of l (c.self.inside.count + 1))
    (sym c.append.ensures.last)
    (line_with g.T.StandsInLine.place_of c.self.inside.slots.items c.self.inside.count c.args.arrival
    c.self.invariant (subst (λ (q : WaitingLine _). All (λ x. g.T.StandsInLine.place_of x <
    g.T.StandsInLine.place_of c.args.arrival) q.waiting) (sym c.self.view_is) c.requires.above))

pub returns-clause-last : goal.returns-clause-last
returns-clause-last g c = rw (← c.self.view_is) (ap waiting_in c.append.ensures.last ∙ waiting_with
    c.self.inside.slots.items c.args.arrival)
