-- One number after another is listed, where there is room.
use Rattle.std.proofs.Common.{arith, get_or, length, refl, subst, ◌∙◌, ◌∷◌, []}
use Rattle.rv_engine.specs.Handing.{AddsLooks}
use Rattle.rv_engine.proofs.Looking.{adds_more, adds_nothing, adds_whole}
use Rattle.rv_engine.proofs.looks.LookList.add_all.Goals as goal

pub loop-number-init : goal.loop-number-init
loop-number-init c = (
  c.requires,
  refl,
  adds_nothing (length c.args.self.now.flags.items) c.args.self.now.numbers.items,
)

pub loop-number-preserved : goal.loop-number-preserved
loop-number-preserved c = (
  c.add.ensures.sound,
  c.add.ensures.room ∙ c.loop-number.invariant.1,
  adds_more (length c.args.self.now.flags.items) c.args.self.now.numbers.items
      c.loop-number.self.numbers.items c.add.new.self.numbers.items
      c.args.numbers.now c.loop-number.number-index c.loop-number-test.true c.loop-number.invariant.2
      (subst (λ room. AddsLooks room c.loop-number.self.numbers.items
      (get_or c.args.numbers.now c.loop-number.number-index 0 ∷ []) c.add.new.self.numbers.items)
      c.loop-number.invariant.1 c.add.ensures.adds),
)

pub returns-clause-adds : goal.returns-clause-adds
returns-clause-adds c =
    adds_whole _ c.args.self.now.numbers.items c.loop-number.self.numbers.items c.args.numbers.now
    c.loop-number.number-index (omega (arith, c.loop-number-test.false)) c.loop-number.invariant.2
