use Rattle.std.proofs.Common.{◌-◌, ◌^◌}
use Rattle.rv_journal.specs.Filled.{OnlyFills, TakesPieces}
use Rattle.rv_journal.proofs.filled.FilledFile.make_room.Given as goal

abbrev pub invariant-loop-self : goal.invariant-loop-self
invariant-loop-self g l = TakesPieces g.D.Device.disk l.self × OnlyFills g.D.Device.disk l.fn.self l.self

abbrev pub decreases-loop-self : goal.decreases-loop-self
decreases-loop-self g l = 2 ^ 51 - l.self.filled
