-- A place that is empty has room for one more.
use Rattle.std.proofs.Common.{arith, Some}
use Rattle.rv_traffic.proofs.OfLinks.Places.{few_ones, one_again}
use Rattle.rv_traffic.proofs.links.Links.insert.Goals as goal

pub overflow_add-self : goal.overflow_add-self
overflow_add-self g c =
    omega (
      arith,
      few_ones c.remove.new.self.table.items c.args.number
          (omega (arith, c.requires.within, c.remove.ensures.room)) c.remove.ensures.none,
      c.remove.new.self.counted.counts,
      c.remove.new.self.table.ok,
    )

pub returns-clause-others : goal.returns-clause-others
returns-clause-others g c =
    one_again c.args.self.now.table.items c.remove.new.self.table.items c.args.number (Some c.new.result)
    c.remove.ensures.others (omega (arith, c.requires.within, c.remove.ensures.room))
