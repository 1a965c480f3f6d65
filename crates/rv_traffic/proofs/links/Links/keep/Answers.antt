-- All that is pending fits: no buffer has 2^63 bytes.
use Rattle.std.proofs.Common.{ap, arith, length}
use Rattle.rv_traffic.proofs.OfLinks.Places.{few_all, rest_le}
use Rattle.rv_traffic.proofs.links.Links.keep.Goals as goal

pub overflow_add-self : goal.overflow_add-self
overflow_add-self g c =
    omega (
      arith,
      few_all c.args.self.now.table.items,
      c.args.self.now.counted.pends,
      c.args.self.now.counted.few,
      c.args.self.now.table.ok,
      rest_le c.as_slice.result.now c.args.taken,
      ap length c.as_slice.ensures,
      c.len.ensures.value,
      c.len.ensures.bound,
    )
