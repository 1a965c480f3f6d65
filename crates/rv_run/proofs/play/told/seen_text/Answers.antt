-- The text tells what was seen, in a line.
use Rattle.std.proofs.Common.{◌++◌, IfOk, Ok, ap, codes, lit≤, refl, rules, subst, sym, ◌∙◌}
use Rattle.std.specs.Fmt.{decimal}
use Rattle.std.proofs.lemmas.Result.{IfOk-weaker}
use Rattle.rv_world.specs.declared.parts.seen.Seen.TheVariants as sees
use Rattle.rv_run.specs.play.Told.{IsResult}
use Rattle.rv_run.proofs.OfPlay.Results.{number_result}
use Rattle.rv_run.proofs.play.told.seen_text.Goals as goal

pub returns-in-Sent : goal.returns-in-Sent
returns-in-Sent c = subst (λ seen. IfOk c.format.result (IsResult c.args.world.now (Ok seen)))
    (sym c.in-Sent.is) (IfOk-weaker c.format.result _ _ (λ s same.
    number_result c.args.world.now (Ok (sees.Sent c.in-Sent.packet)) s (codes "sent ") c.in-Sent.packet same
    refl (lit≤ tt) (search rules) (λ is. is)) c.format.ensures.ok)

pub returns-in-TurnedAway : goal.returns-in-TurnedAway
returns-in-TurnedAway c = subst (λ seen. IfOk c.format-in-TurnedAway.result (IsResult c.args.world.now
    (Ok seen))) (sym c.in-TurnedAway.is) (IfOk-weaker c.format-in-TurnedAway.result _ _ (λ s same.
    number_result c.args.world.now (Ok (sees.TurnedAway c.in-TurnedAway.refusal)) s (codes "turned away ")
    c.code.result same refl (lit≤ tt) (search rules) (λ is. is ∙ ap (λ n. codes "turned away " ++ decimal
    n) c.code.ensures)) c.format-in-TurnedAway.ensures.ok)

pub returns-in-Ended : goal.returns-in-Ended
returns-in-Ended c = subst (λ seen. IfOk c.format-in-Ended.result (IsResult c.args.world.now (Ok seen)))
    (sym c.in-Ended.is) (IfOk-weaker c.format-in-Ended.result _ _ (λ s same.
    number_result c.args.world.now (Ok (sees.Ended c.in-Ended.current)) s (codes "ended ") c.in-Ended.current
    same refl (lit≤ tt) (search rules) (λ is. is)) c.format-in-Ended.ensures.ok)

pub returns-in-Replaced : goal.returns-in-Replaced
returns-in-Replaced c = subst (λ seen. IfOk c.format-in-Replaced.result (IsResult c.args.world.now (Ok seen)))
    (sym c.in-Replaced.is) (IfOk-weaker c.format-in-Replaced.result _ _ (λ s same.
    number_result c.args.world.now (Ok (sees.Replaced c.in-Replaced.current)) s (codes "replaced ")
    c.in-Replaced.current same refl (lit≤ tt) (search rules) (λ is. is)) c.format-in-Replaced.ensures.ok)

pub returns-in-Opened : goal.returns-in-Opened
returns-in-Opened c = subst (λ seen. IfOk c.format-in-Opened.result (IsResult c.args.world.now (Ok seen)))
    (sym c.in-Opened.is) (IfOk-weaker c.format-in-Opened.result _ _ (λ s same.
    number_result c.args.world.now (Ok (sees.Opened c.in-Opened.epoch)) s (codes "opened ") c.in-Opened.epoch
    same refl (lit≤ tt) (search rules) (λ is. is)) c.format-in-Opened.ensures.ok)
