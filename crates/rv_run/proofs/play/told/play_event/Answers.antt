-- What was seen can be told, and so can the number of a refusal.
use Rattle.std.proofs.Common.{◌++◌, ap, arith, codes, lit≤, refl, Err, Ok, ◌∙◌}
use Rattle.std.specs.Fmt.{decimal}
use Rattle.std.proofs.lemmas.Result.{IfOk-weaker}
use Rattle.rv_run.proofs.OfPlay.CanBeTold.{step_told}
use Rattle.rv_run.proofs.OfPlay.Results.{number_result}
use Rattle.rv_run.proofs.play.told.play_event.Goals as goal

pub seen_text-requires : goal.seen_text-requires
seen_text-requires c = step_told c.args.world.now c.step.new.self c.args.event.now c.in-Ok.seen
    c.in-Ok.ensures.comes

pub returns-in-Ok : goal.returns-in-Ok
returns-in-Ok c = IfOk-weaker c.seen_text.result _ _ (λ s told. record {
  shown = Ok c.in-Ok.seen;
  comes =
      c.in-Ok.ensures.comes;
  told = told;
}) c.seen_text.ensures

pub returns-in-Err : goal.returns-in-Err
returns-in-Err c = IfOk-weaker c.format.result _ _ (λ s same. record {
  shown = Err c.in-Err.refusal;
  comes = c.in-Err.ensures.comes;
  told = number_result c.step.new.self (Err c.in-Err.refusal) s (codes "refused ") c.number_of.result same
      refl (lit≤ tt) (omega (arith, c.number_of.type_inv)) (λ is. is ∙ ap (λ n. codes "refused " ++ decimal n)
      c.number_of.ensures);
}) c.format.ensures.ok
