use Rattle.std.proofs.Common.{◌≡◌, take}
use Rattle.std.specs.List.{count_by, zip}
use Rattle.rv_traffic.specs.Origins.{is_from}
use Rattle.rv_traffic.proofs.origins.Origins.count.Given as goal

abbrev pub invariant-loop-number : goal.invariant-loop-number
invariant-loop-number g l =
    l.count ≡ count_by (λ pair. is_from l.address pair.0 pair.1)
    (take l.number (zip l.self.from.items l.links.table.items))
