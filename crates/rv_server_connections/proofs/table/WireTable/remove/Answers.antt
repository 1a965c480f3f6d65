-- A number is free again.
use Rattle.std.proofs.Common.{◌∙◌, None, arith, sym, ap, slice_set, vec_len}
use Rattle.rv_server_connections.specs.Table.{TableState, get}
use Rattle.rv_server_connections.proofs.Places.{place_back, place_within, room_back, set_place}
use Rattle.rv_server_connections.proofs.table.WireTable.remove.Goals as goal

pub push_reserved-requires : goal.push_reserved-requires
push_reserved-requires c =
    let there = sym (c.in_ok-get.ensures ∙ ap (λ (t : TableState). get t c.args.number) (sym c.self.view_is))
    in
    omega (
      arith,
      room_back c.self.inside.places.items c.self.inside.free.items _ c.args.number c.in_ok-get.field-0.now
          c.self.invariant there,
      c.self.inside.free.ok.0,
    )

pub invariant_of-self : goal.invariant_of-self
invariant_of-self c =
    let there = sym (c.in_ok-get.ensures ∙ ap (λ (t : TableState). get t c.args.number) (sym c.self.view_is))
    in
    rw c.take.ensures.after (place_back c.self.inside.places.items c.self.inside.free.items _ c.args.number
    c.in_ok-get.field-0.now c.self.invariant there c.push_reserved.new.self.items _
    c.push_reserved.ensures.items
    c.push_reserved.ensures.capacity)

pub returns-clause-sets : goal.returns-clause-sets
returns-clause-sets c =
    let there = sym (c.in_ok-get.ensures ∙ ap (λ (t : TableState). get t c.args.number) (sym c.self.view_is))
    in
    let t : TableState = record {
      places = c.self.inside.places.items;
      free = c.self.inside.free.items;
      room = vec_len c.self.inside.places;
    } in
    let u : TableState = record t {
      places = slice_set t.places c.args.number c.take.new.self;
      free = c.push_reserved.new.self.items;
    } in
    rw (← c.self.view_is) (set_place t u c.args.number None
    (place_within t.places c.args.number c.in_ok-get.field-0.now there)
    (ap (λ o. slice_set t.places c.args.number o) c.take.ensures.after))
