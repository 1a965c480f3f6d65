-- The last is listed no longer.
use Rattle.std.proofs.Common.{arith, refl}
use Rattle.rv_server_connections.proofs.Listing.{last_within, unmarked}
use Rattle.rv_engine.proofs.looks.LookList.pop.Goals as goal

pub index_mut-requires : goal.index_mut-requires
index_mut-requires c =
    omega (
      arith,
      last_within c.args.self.now.flags.items c.args.self.now.numbers.items c.pop.new.self.items _
          c.in_ok-number.number c.requires c.in_ok-number.ensures.items,
      c.args.self.now.flags.ok,
    )

pub returns-clause-sound : goal.returns-clause-sound
returns-clause-sound c =
    unmarked c.args.self.now.flags.items _ c.args.self.now.numbers.items c.pop.new.self.items _ _
    c.in_ok-number.number c.requires c.in_ok-number.ensures.items refl c.pop.ensures.capacity
