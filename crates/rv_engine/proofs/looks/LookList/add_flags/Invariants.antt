use Rattle.std.proofs.Common.{◌≡◌, ◌≤◌, ◌-◌, length, vec_capacity}
use Rattle.rv_engine.specs.Engines.{IsLooks}
use Rattle.rv_engine.proofs.looks.LookList.add_flags.Given as goal

abbrev pub invariant-loop-self : goal.invariant-loop-self
invariant-loop-self l =
    IsLooks l.self × (l.self.numbers ≡ l.fn.self.numbers) × (length l.self.flags.items ≤ l.most)
    × (l.most ≤ vec_capacity l.self.flags)

abbrev pub decreases-loop-self : goal.decreases-loop-self
decreases-loop-self l = l.most - length l.self.flags.items
