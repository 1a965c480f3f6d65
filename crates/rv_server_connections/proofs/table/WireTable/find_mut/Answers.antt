-- Whatever is written, the number stays taken.
use Rattle.std.proofs.Common.{◌<◌, ◌∙◌, None, arith, length, sym}
use Rattle.std.proofs.lemmas.List.{get_or_default}
use Rattle.rv_server_connections.proofs.Places.{place_kept}
use Rattle.rv_server_connections.proofs.table.WireTable.find_mut.Goals as goal

pub invariant_of-self-lent : goal.invariant_of-self-lent
invariant_of-self-lent c w =
    let within : c.args.number < length c.self.inside.places.items =
    omega (arith, c.if-number-len.false, c.len.ensures, c.self.inside.places.ok.0) in
    rw c.in-Some.is (place_kept c.self.inside.places.items c.self.inside.free.items _ c.args.number
    c.in-Some.slot c.self.invariant
    (get_or_default c.self.inside.places.items c.args.number None _ within ∙ sym c.index_mut.ensures.value
    ∙ c.in-Some.is) w)
