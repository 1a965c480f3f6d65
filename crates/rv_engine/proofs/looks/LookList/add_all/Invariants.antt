use Rattle.std.proofs.Common.{◌≡◌, length, take}
use Rattle.rv_engine.specs.Engines.{IsLooks}
use Rattle.rv_engine.specs.Handing.{AddsLooks}
use Rattle.rv_engine.proofs.looks.LookList.add_all.Given as goal

abbrev pub invariant-loop-number : goal.invariant-loop-number
invariant-loop-number l =
    IsLooks l.self × (length l.self.flags.items ≡ length l.fn.self.flags.items)
    × AddsLooks (length l.fn.self.flags.items) l.fn.self.numbers.items (take l.number-index l.numbers)
    l.self.numbers.items
