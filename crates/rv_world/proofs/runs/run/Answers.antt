-- The world at the end is the one that took the events; the headline holds of it.
use Rattle.rv_world.proofs.OfParts.Words.{subst, World, Runs}
use Rattle.rv_world.proofs.OfParts.TheHeadline.{headline_holds}
use Rattle.rv_world.proofs.runs.run.Goals as goal

pub returns-clause-runs : goal.returns-clause-runs
returns-clause-runs c = subst (λ (w : World). Runs w c.args.events.now c.take_each.new.world) c.in-Ok.ensures
    c.in_ok-take_each.ensures.runs

pub returns-clause-headline : goal.returns-clause-headline
returns-clause-headline c =
    headline_holds 1 _ c.take_each.new.world
    (subst (λ (w : World). Runs w c.args.events.now c.take_each.new.world) c.in-Ok.ensures
    c.in_ok-take_each.ensures.runs)

pub returns-clause-stops : goal.returns-clause-stops
returns-clause-stops c = tt
