-- One flag more.
use Rattle.std.proofs.Common.{ap, arith, vec_capacity}
use Rattle.rv_server_connections.proofs.Listing.{flag_added}
use Rattle.rv_engine.proofs.looks.LookList.add_flags.Goals as goal

pub loop-self-preserved : goal.loop-self-preserved
loop-self-preserved c = (
  flag_added c.loop-self.self.flags.items _ c.loop-self.self.numbers.items _ c.loop-self.invariant.0
      c.push_reserved.ensures.items
      (omega (
        arith,
        c.loop-self-test.true,
        c.len.ensures,
        c.loop-self.self.flags.ok,
        c.requires.numbers,
        ap vec_capacity c.loop-self.invariant.1,
      )),
  c.loop-self.invariant.1,
  omega (
    arith,
    c.loop-self-test.true,
    c.len.ensures,
    c.push_reserved.ensures.len,
    c.push_reserved.new.self.ok,
    c.loop-self.self.flags.ok,
  ),
  omega (arith, c.push_reserved.ensures.capacity, c.loop-self.invariant.3),
)
