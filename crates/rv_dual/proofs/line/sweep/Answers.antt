-- Without its marks a line is one of those who wait, and of nothing else.
use Rattle.std.proofs.Common.{List, sym, ap, ◌∙◌, subst, arith, rules}
use Rattle.std.proofs.lemmas.Fn.{filter_same}
use Rattle.rv_dual.specs.declared.slot.Slot.{Slot}
use Rattle.rv_dual.specs.Slots.{IsSlotLine, is_held, waiting_in}
use Rattle.rv_dual.proofs.Arriving.{fewer}
use Rattle.rv_dual.proofs.Sweeping.{line_swept, waiting_swept}
use Rattle.rv_dual.proofs.line.sweep.Goals as goal

pub overflow_sub-len : goal.overflow_sub-len
overflow_sub-len g c = omega (
  arith,
  c.requires.counted,
  fewer c.args.slots.now.items,
  c.len.ensures,
  c.args.slots.now.ok.0,
)

pub returns-then-len-count-clause-same : goal.returns-then-len-count-clause-same
returns-then-len-count-clause-same g c =
    ap waiting_in (filter_same _ is_held _ (λ x b f' k. search rules) _ _ c.retain.ensures.filtered)
    ∙ waiting_swept c.args.slots.now.items

pub returns-then-len-count-clause-line : goal.returns-then-len-count-clause-line
returns-then-len-count-clause-line g c =
    subst (λ (l : List (Slot _)). IsSlotLine g.T.StandsInLine.place_of l c.args.count)
    (sym (filter_same _ is_held _ (λ x b f' k. search rules) _ _ c.retain.ensures.filtered))
    (line_swept g.T.StandsInLine.place_of c.args.slots.now.items c.args.count c.requires.rises
    c.requires.counted)
