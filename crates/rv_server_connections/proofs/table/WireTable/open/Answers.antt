-- The last free number is given.
use Rattle.std.proofs.Common.{◌++◌, ◌∙◌, Some, arith, refl, ap, slice_set, vec_len}
use Rattle.std.specs.Option.{option_to_list}
use Rattle.rv_server_connections.specs.Table.{TableState}
use Rattle.rv_server_connections.proofs.Places.{free_place, free_within, given_place, set_place}
use Rattle.rv_server_connections.proofs.table.WireTable.open.Goals as goal

pub index_mut-requires : goal.index_mut-requires
index_mut-requires c =
    let rest = c.pop.new.self.items in
    let last = c.pop.ensures.items ∙ ap (λ o. rest ++ option_to_list o) c.unwrap-number.ensures in
    omega (
      arith,
      free_within c.self.inside.places.items c.self.inside.free.items rest _ c.unwrap-number.result
          c.self.invariant last,
      c.self.inside.places.ok.0,
    )

pub invariant_of-self : goal.invariant_of-self
invariant_of-self c =
    let rest = c.pop.new.self.items in
    let last = c.pop.ensures.items ∙ ap (λ o. rest ++ option_to_list o) c.unwrap-number.ensures in
    given_place c.self.inside.places.items c.self.inside.free.items rest _ c.unwrap-number.result
    c.self.invariant last c.args.slot _ c.pop.ensures.capacity

pub returns-clause-free : goal.returns-clause-free
returns-clause-free c =
    let rest = c.pop.new.self.items in
    let last = c.pop.ensures.items ∙ ap (λ o. rest ++ option_to_list o) c.unwrap-number.ensures in
    rw (← c.self.view_is) (free_place c.self.inside.places.items c.self.inside.free.items rest _
    c.unwrap-number.result c.self.invariant last)

pub returns-clause-sets : goal.returns-clause-sets
returns-clause-sets c =
    let rest = c.pop.new.self.items in
    let last = c.pop.ensures.items ∙ ap (λ o. rest ++ option_to_list o) c.unwrap-number.ensures in
    let number = c.unwrap-number.result in
    let t : TableState = record {
      places = c.self.inside.places.items;
      free = c.self.inside.free.items;
      room = vec_len c.self.inside.places;
    } in
    let u : TableState = record t { places = slice_set t.places number (Some c.args.slot); free = rest } in
    rw (← c.self.view_is) (set_place t u number (Some c.args.slot)
    (free_within c.self.inside.places.items c.self.inside.free.items rest _ c.unwrap-number.result
    c.self.invariant last) refl)

pub returns-clause-within : goal.returns-clause-within
returns-clause-within c =
    let rest = c.pop.new.self.items in
    let last = c.pop.ensures.items ∙ ap (λ o. rest ++ option_to_list o) c.unwrap-number.ensures in
    rw (← c.self.view_is) (omega (
      arith,
      free_within c.self.inside.places.items c.self.inside.free.items rest _ c.unwrap-number.result
          c.self.invariant last,
      c.self.inside.places.ok.0,
    ))
