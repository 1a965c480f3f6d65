-- When the first item leaves one side alone still waits.
use Rattle.rv_dual.proofs.Sides.{dual_after_giver}
use Rattle.rv_dual.proofs.dual.Dual.try_take.Goals as goal

pub invariant_of-self : goal.invariant_of-self
invariant_of-self c = dual_after_giver c.self.inside.givers.waiting c.pop.new.self.waiting
    c.self.inside.takers.waiting c.pop.result c.self.invariant c.pop.ensures.oldest
