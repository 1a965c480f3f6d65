-- One place more is empty.
use Rattle.std.proofs.Common.{arith, subst, sym}
use Rattle.rv_traffic.proofs.OfLinks.Empty.{AreNone, none_counted, none_push}
use Rattle.rv_traffic.proofs.links.Links.new.Goals as goal

pub loop-table-preserved : goal.loop-table-preserved
loop-table-preserved g c = (
  subst AreNone (sym c.push_reserved.ensures.items) (none_push c.loop-table.table.items
      c.loop-table.invariant.0),
  omega (
    arith,
    c.loop-table-test.true,
    c.len.ensures,
    c.push_reserved.ensures.len,
    c.push_reserved.new.self.ok,
    c.loop-table.table.ok,
  ),
  omega (arith, c.push_reserved.ensures.capacity, c.loop-table.invariant.2),
)

pub invariant_of-result : goal.invariant_of-result
invariant_of-result g c = record {
  counted = none_counted c.loop-table.table.items c.loop-table.invariant.0;
  roomy = omega (arith, c.in_ok-with_capacity.ensures.spare);
}
