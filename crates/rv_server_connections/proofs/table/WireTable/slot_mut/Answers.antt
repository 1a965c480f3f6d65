-- Whatever is written, the number stays taken.
use Rattle.rv_server_connections.specs.Table.{TableState, get}
use Rattle.std.proofs.Common.{IsSome, sym, subst, vec_len}
use Rattle.rv_server_connections.proofs.Places.{place_kept, there_is}
use Rattle.rv_server_connections.proofs.table.WireTable.slot_mut.Goals as goal

pub invariant_of-self-lent : goal.invariant_of-self-lent
invariant_of-self-lent c w =
    let found = there_is (get (record {
      places = c.self.inside.places.items;
      free = c.self.inside.free.items;
      room = vec_len c.self.inside.places;
    }) c.args.number) (subst (λ (t : TableState). IsSome (get t c.args.number)) (sym c.self.view_is)
    c.requires) in
    place_kept c.self.inside.places.items c.self.inside.free.items _ c.args.number found.0 c.self.invariant
    found.1 w
