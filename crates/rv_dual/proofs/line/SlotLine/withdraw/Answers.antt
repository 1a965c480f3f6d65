-- Who was found is marked, and the others stay in their order.
use Rattle.std.proofs.Common.{List, length, sym, ap, ◌∙◌, subst, arith}
use Rattle.std.proofs.lemmas.Option.{slice_get_within}
use Rattle.rv_dual.specs.declared.slot.Slot.{Slot}
use Rattle.rv_dual.specs.Slots.{Rises, waiting_in}
use Rattle.rv_dual.proofs.Marking.{held_at, one_fewer, rises_marked, waiting_marked, waits_there}
use Rattle.rv_dual.proofs.Removing.{without_none}
use Rattle.rv_dual.proofs.Searching.{if_none}
use Rattle.rv_dual.proofs.line.SlotLine.withdraw.Goals as goal

pub returns-in_err-index-clause-none : goal.returns-in_err-index-clause-none
returns-in_err-index-clause-none g c = rw (← c.self.view_is) (if_none c.from_residual.result
    c.in_err-index.ensures.none)

pub returns-in_err-index-clause-rest : goal.returns-in_err-index-clause-rest
returns-in_err-index-clause-rest g c = rw (← c.self.view_is)
    (without_none (g.T.StandsInLine.waits_at c.args.place) (waiting_in c.self.inside.slots.items)
    c.in_err-index.ensures.none)

pub mark-requires : goal.mark-requires
mark-requires g c = slice_get_within c.self.inside.slots.items c.in_ok-index.index
    c.in_ok-index.ensures.found.element c.in_ok-index.ensures.found.there

pub overflow_sub-self : goal.overflow_sub-self
overflow_sub-self g c =
    let both = held_at (g.T.StandsInLine.waits_at c.args.place) c.self.inside.slots.items c.in_ok-index.index
    c.unwrap-out.result c.in_ok-index.ensures.found (sym c.unwrap-out.ensures ∙ c.mark.ensures.out) in
    omega (
      arith,
      c.self.invariant.counted,
      one_fewer c.self.inside.slots.items c.in_ok-index.index
          c.args.place c.unwrap-out.result both.0,
    )

pub trim-requires-clause-rises : goal.trim-requires-clause-rises
trim-requires-clause-rises g c =
    let both = held_at (g.T.StandsInLine.waits_at c.args.place) c.self.inside.slots.items c.in_ok-index.index
    c.unwrap-out.result c.in_ok-index.ensures.found (sym c.unwrap-out.ensures ∙ c.mark.ensures.out) in
    subst (λ (l : List (Slot _)). Rises g.T.StandsInLine.place_of l) (sym c.mark.ensures.rest)
    (rises_marked g.T.StandsInLine.place_of c.args.place c.self.inside.slots.items c.in_ok-index.index
    c.unwrap-out.result both.0 (g.met.T.StandsInLine.at_its_place c.args.place c.unwrap-out.result both.1)
    c.self.invariant.rises)

pub trim-requires-clause-counted : goal.trim-requires-clause-counted
trim-requires-clause-counted g c =
    let both = held_at (g.T.StandsInLine.waits_at c.args.place) c.self.inside.slots.items c.in_ok-index.index
    c.unwrap-out.result c.in_ok-index.ensures.found (sym c.unwrap-out.ensures ∙ c.mark.ensures.out) in
    let is_marked = ap (λ (l : List (Slot _)). length (waiting_in l)) c.mark.ensures.rest in
    omega (
      arith,
      is_marked,
      c.self.invariant.counted,
      one_fewer c.self.inside.slots.items c.in_ok-index.index
          c.args.place c.unwrap-out.result both.0,
    )

pub returns-clause-some : goal.returns-clause-some
returns-clause-some g c =
    let both = held_at (g.T.StandsInLine.waits_at c.args.place) c.self.inside.slots.items c.in_ok-index.index
    c.unwrap-out.result c.in_ok-index.ensures.found (sym c.unwrap-out.ensures ∙ c.mark.ensures.out) in
    rw (← c.self.view_is) ((
      waits_there c.self.inside.slots.items c.in_ok-index.index c.unwrap-out.result
          both.0,
      both.1,
    ))

pub returns-clause-rest : goal.returns-clause-rest
returns-clause-rest g c =
    let both = held_at (g.T.StandsInLine.waits_at c.args.place) c.self.inside.slots.items c.in_ok-index.index
    c.unwrap-out.result c.in_ok-index.ensures.found (sym c.unwrap-out.ensures ∙ c.mark.ensures.out) in
    rw (← c.self.view_is) (c.trim.ensures.same ∙ ap waiting_in c.mark.ensures.rest
    ∙ waiting_marked g.T.StandsInLine.place_of c.args.place (g.T.StandsInLine.waits_at c.args.place)
    (g.met.T.StandsInLine.at_its_place c.args.place) c.self.inside.slots.items c.in_ok-index.index
    c.unwrap-out.result c.self.invariant.rises both.0 both.1)
