-- One event after the other.
use Rattle.rv_world.proofs.OfParts.EventLists.{runs_on}
use Rattle.rv_world.proofs.runs.take_each.Goals as goal

pub loop-i-preserved : goal.loop-i-preserved
loop-i-preserved c =
    runs_on c.args.world.now c.args.events.now c.loop-i.i _ c.loop-i.world c.step.new.self
    c.in_default.field-0
    c.loop-i-test.true c.index-events-i.is c.loop-i.invariant c.in_default.ensures.comes
