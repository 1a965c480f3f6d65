-- Who waited at the place left its line, and its limit went.
use Rattle.std.proofs.Common.{◌∙◌, ap, subst, sym, refl, arith, List, Option, IsSome}
use Rattle.rv_session.specs.OwedDuty.{OwedDuty}
use Rattle.rv_account.specs.state.State.{OpenPlace}
use Rattle.rv_machine.specs.open_places.OpenMap.{found_at, all_but}
use Rattle.rv_machine.specs.open_places.Indexed.{WaitsIn}
use Rattle.rv_machine.proofs.OfOpenPlaces.Indexing.{closed_waiting, fits_found, one_waits, waits_there}
use Rattle.rv_machine.proofs.OfOpenPlaces.Indexing.{withdrawn}
use Rattle.rv_machine.proofs.open_places.table.OpenTable.close.Goals as goal

pub withdraw-requires : goal.withdraw-requires
withdraw-requires c =
    fits_found c.self.inside.opens c.self.inside.wait_queues c.self.inside.waiting c.self.inside.due
    c.args.place
    c.unwrap-there.result c.self.invariant (sym c.take.ensures.found ∙ c.unwrap-there.ensures)

pub unwrap-duty-requires : goal.unwrap-duty-requires
unwrap-duty-requires c =
    let found = sym c.take.ensures.found ∙ c.unwrap-there.ensures in
    let waits = waits_there c.self.inside.opens c.args.place c.unwrap-there.result
    (subst (λ (all : List OpenPlace). WaitsIn all c.args.place) (sym c.self.view_is) c.requires) found in
    let out = withdrawn c.self.inside.opens c.self.inside.wait_queues c.withdraw.new.self
    c.self.inside.waiting
    c.self.inside.due c.args.place c.unwrap-there.result c.withdraw.result c.self.invariant found waits
    c.withdraw.ensures in
    subst (λ (o : Option OwedDuty). IsSome o) (sym out.is) refl

pub overflow_sub-self : goal.overflow_sub-self
overflow_sub-self c =
    let found = sym c.take.ensures.found ∙ c.unwrap-there.ensures in
    let waits = waits_there c.self.inside.opens c.args.place c.unwrap-there.result
    (subst (λ (all : List OpenPlace). WaitsIn all c.args.place) (sym c.self.view_is) c.requires) found in
    let one = one_waits c.self.inside.opens c.self.inside.wait_queues c.self.inside.waiting c.self.inside.due
    c.args.place c.unwrap-there.result c.self.invariant found waits in
    omega (arith, one)

pub invariant_of-self : goal.invariant_of-self
invariant_of-self c =
    let found = sym c.take.ensures.found ∙ c.unwrap-there.ensures in
    let waits = waits_there c.self.inside.opens c.args.place c.unwrap-there.result
    (subst (λ (all : List OpenPlace). WaitsIn all c.args.place) (sym c.self.view_is) c.requires) found in
    let out = withdrawn c.self.inside.opens c.self.inside.wait_queues c.withdraw.new.self
    c.self.inside.waiting
    c.self.inside.due c.args.place c.unwrap-there.result c.withdraw.result c.self.invariant found waits
    c.withdraw.ensures in
    closed_waiting c.self.inside.opens _ c.self.inside.wait_queues _ c.self.inside.waiting _ c.self.inside.due
    _
    c.args.place c.unwrap-there.result c.self.invariant found waits c.take.ensures.rest out.left refl
    c.forget.ensures

pub returns : goal.returns
returns c =
    let found = sym c.take.ensures.found ∙ c.unwrap-there.ensures in
    let waits = waits_there c.self.inside.opens c.args.place c.unwrap-there.result
    (subst (λ (all : List OpenPlace). WaitsIn all c.args.place) (sym c.self.view_is) c.requires) found in
    let out = withdrawn c.self.inside.opens c.self.inside.wait_queues c.withdraw.new.self
    c.self.inside.waiting
    c.self.inside.due c.args.place c.unwrap-there.result c.withdraw.result c.self.invariant found waits
    c.withdraw.ensures in
    record {
      found = ap (λ (all : List OpenPlace). found_at all c.args.place) (sym c.self.view_is) ∙ found;
      owed = out.owed ∙ sym out.is ∙ c.unwrap-duty.ensures;
      rest = c.take.ensures.rest ∙ ap (λ (all : List OpenPlace). all_but all c.args.place) c.self.view_is;
    }
