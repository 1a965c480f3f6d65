-- A number more is free.
use Rattle.std.proofs.Common.{◌∷◌, ◌++◌, ◌∙◌, [], List, None, Option, arith, sym, ap, subst, is_none, map}
use Rattle.std.proofs.Common.{get_or, vec_capacity}
use Rattle.rv_server_connections.specs.declared.table.WireSlot.{WireSlot}
use Rattle.rv_server_connections.specs.Flags.{AreListed}
use Rattle.rv_server_connections.proofs.Listing.{same_at}
use Rattle.rv_server_connections.proofs.Places.{place_added}
use Rattle.rv_server_connections.proofs.table.WireTable.make_room.Goals as goal

pub invariant_of-self-2 : goal.invariant_of-self-2
invariant_of-self-2 c =
    let places = c.self.inside.places in
    let free = c.self.inside.free in
    let long = ap (λ n. free.items ++ n ∷ []) (c.len-next.ensures ∙ places.ok.0) in
    subst (λ (l : List (Option WireSlot)). AreListed (map is_none l) c.push_reserved-2.new.self.items
    (vec_capacity c.push_reserved-2.new.self))
    (sym (c.push_reserved.ensures.items ∙ ap (λ l. l ++ None ∷ []) c.reserve.ensures.items))
    (place_added places.items free.items c.push_reserved-2.new.self.items (vec_capacity free)
    (vec_capacity c.push_reserved-2.new.self) c.self.invariant
    (c.push_reserved-2.ensures.items ∙ ap (λ l. l ++ c.len-next.result ∷ []) c.reserve-2.ensures.items
    ∙ long)
    (omega (
      arith,
      c.in_ok-reserve-2.ensures.ok,
      c.push_reserved-2.ensures.capacity,
      c.len-next.ensures,
      places.ok.0,
    ))
    (omega (arith, c.reserve-2.ensures.capacity, c.push_reserved-2.ensures.capacity)))

pub returns-clause-same : goal.returns-clause-same
returns-clause-same c k =
    rw (← c.self.view_is) (ap (λ (l : List (Option WireSlot)). get_or l k None)
    (c.push_reserved.ensures.items ∙ ap (λ l. l ++ None ∷ []) c.reserve.ensures.items)
    ∙ same_at None c.self.inside.places.items k)
