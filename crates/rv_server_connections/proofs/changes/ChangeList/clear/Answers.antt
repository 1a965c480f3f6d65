-- The last is listed no longer.
use Rattle.std.proofs.Common.{◌∙◌, arith, false, refl}
use Rattle.std.proofs.lemmas.List.{length-set}
use Rattle.rv_server_connections.proofs.Listing.{last_within, unmarked}
use Rattle.rv_server_connections.proofs.changes.ChangeList.clear.Goals as goal

pub index_mut-requires : goal.index_mut-requires
index_mut-requires c =
    omega (
      arith,
      last_within c.loop-number.self.flags.items c.loop-number.self.numbers.items c.pop.new.self.items _
          c.in-Some.number c.loop-number.invariant.0 c.in-Some.ensures.items,
      c.loop-number.self.flags.ok,
    )

pub loop-number-preserved : goal.loop-number-preserved
loop-number-preserved c = (
  unmarked c.loop-number.self.flags.items _ c.loop-number.self.numbers.items c.pop.new.self.items _ _
      c.in-Some.number c.loop-number.invariant.0 c.in-Some.ensures.items refl c.pop.ensures.capacity,
  length-set c.loop-number.self.flags.items c.in-Some.number false ∙ c.loop-number.invariant.1,
)
