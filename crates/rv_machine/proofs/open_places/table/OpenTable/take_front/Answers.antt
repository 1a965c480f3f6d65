-- The first of the queue's givers left its line.
use Rattle.std.proofs.Common.{◌≡◌, ◌∷◌, ◌∙◌, ap, subst, sym, refl, arith, List, Option, Some, IsSome}
use Rattle.rv_text.specs.declared.call.Side.TheVariants.{Gives}
use Rattle.rv_due.proofs.Kept.{if_none}
use Rattle.rv_account.specs.state.State.{OpenPlace}
use Rattle.rv_account.proofs.OfState.Words.{same_Some}
use Rattle.rv_machine.specs.open_places.OpenMap.{line_in, owed_among, all_but}
use Rattle.rv_machine.specs.open_places.Indexed.{ClosesFirst}
use Rattle.rv_machine.proofs.OfOpenPlaces.Firsts.{closed_first, closes_first, count_first, first_left}
use Rattle.rv_machine.proofs.OfOpenPlaces.Firsts.{no_places, owed_there}
use Rattle.rv_machine.proofs.OfOpenPlaces.Indexing.{LeftLine}
use Rattle.rv_machine.proofs.open_places.table.OpenTable.take_front.Goals as goal

pub returns-in_err-duty-clause-none : goal.returns-in_err-duty-clause-none
returns-in_err-duty-clause-none c =
    if_none c.from_residual.result
    (ap (λ (all : List OpenPlace). line_in all (Gives c.args.queue)) (sym c.self.view_is)
    ∙ no_places (line_in c.self.inside.opens (Gives c.args.queue))
    (sym (c.self.invariant.lines (Gives c.args.queue)) ∙ c.in_err-duty.ensures.0))

pub unwrap-there-requires : goal.unwrap-there-requires
unwrap-there-requires c =
    let first = first_left c.self.inside.opens c.self.inside.wait_queues c.take_front.new.self
    c.self.inside.waiting
    c.self.inside.due (Gives c.args.queue) c.in_ok-duty.place c.self.invariant c.in_ok-duty.ensures.first
    c.in_ok-duty.ensures.others (c.in_ok-duty.ensures.parked (owed_among c.self.inside.opens)
    c.self.invariant.parked) in
    subst (λ (o : Option OpenPlace). IsSome o) (sym (c.take.ensures.found ∙ first.found)) refl

pub overflow_sub-self : goal.overflow_sub-self
overflow_sub-self c =
    let first = first_left c.self.inside.opens c.self.inside.wait_queues c.take_front.new.self
    c.self.inside.waiting
    c.self.inside.due (Gives c.args.queue) c.in_ok-duty.place c.self.invariant c.in_ok-duty.ensures.first
    c.in_ok-duty.ensures.others (c.in_ok-duty.ensures.parked (owed_among c.self.inside.opens)
    c.self.invariant.parked) in
    let found = sym c.take.ensures.found ∙ c.unwrap-there.ensures in
    let same : first.there ≡ c.unwrap-there.result = same_Some _ _ (sym first.found ∙ found) in
    let owed = owed_there c.self.inside.opens c.in_ok-duty.place c.unwrap-there.result c.in_ok-duty.duty found
    (c.in_ok-duty.ensures.duty_is (owed_among c.self.inside.opens) c.self.invariant.parked) in
    let counted = count_first c.self.inside.opens c.self.inside.wait_queues c.self.inside.waiting
    c.self.inside.due
    c.in_ok-duty.place c.unwrap-there.result c.in_ok-duty.duty c.self.invariant found owed in
    omega (arith, counted, c.owing.ensures)

pub invariant_of-self-2 : goal.invariant_of-self-2
invariant_of-self-2 c =
    let first = first_left c.self.inside.opens c.self.inside.wait_queues c.take_front.new.self
    c.self.inside.waiting
    c.self.inside.due (Gives c.args.queue) c.in_ok-duty.place c.self.invariant c.in_ok-duty.ensures.first
    c.in_ok-duty.ensures.others (c.in_ok-duty.ensures.parked (owed_among c.self.inside.opens)
    c.self.invariant.parked) in
    let found = sym c.take.ensures.found ∙ c.unwrap-there.ensures in
    let same : first.there ≡ c.unwrap-there.result = same_Some _ _ (sym first.found ∙ found) in
    let owed = owed_there c.self.inside.opens c.in_ok-duty.place c.unwrap-there.result c.in_ok-duty.duty found
    (c.in_ok-duty.ensures.duty_is (owed_among c.self.inside.opens) c.self.invariant.parked) in
    closed_first c.self.inside.opens _ c.self.inside.wait_queues c.take_front.new.self c.self.inside.waiting _
    c.owing.result c.self.inside.due _ c.in_ok-duty.place c.unwrap-there.result c.in_ok-duty.duty
    c.self.invariant found owed c.owing.ensures c.take.ensures.rest
    (subst (LeftLine c.self.inside.opens c.self.inside.wait_queues c.take_front.new.self) same first.left)
    refl
    c.forget.ensures

pub returns-clause-some : goal.returns-clause-some
returns-clause-some c =
    let first = first_left c.self.inside.opens c.self.inside.wait_queues c.take_front.new.self
    c.self.inside.waiting
    c.self.inside.due (Gives c.args.queue) c.in_ok-duty.place c.self.invariant c.in_ok-duty.ensures.first
    c.in_ok-duty.ensures.others (c.in_ok-duty.ensures.parked (owed_among c.self.inside.opens)
    c.self.invariant.parked) in
    let found = sym c.take.ensures.found ∙ c.unwrap-there.ensures in
    let same : first.there ≡ c.unwrap-there.result = same_Some _ _ (sym first.found ∙ found) in
    let owed = owed_there c.self.inside.opens c.in_ok-duty.place c.unwrap-there.result c.in_ok-duty.duty found
    (c.in_ok-duty.ensures.duty_is (owed_among c.self.inside.opens) c.self.invariant.parked) in
    subst (λ (all : List OpenPlace). ClosesFirst all c.take.new.self (Some (Gives c.args.queue))
    c.unwrap-there.result c.in_ok-duty.duty) c.self.view_is
    (closes_first c.self.inside.opens c.take.new.self (Gives c.args.queue) c.in_ok-duty.place
    c.unwrap-there.result c.in_ok-duty.duty found
    (ap (λ (o : OpenPlace). o.place) (sym same) ∙ first.at_place)
    (first.line ∙ ap (λ (o : OpenPlace). o ∷ line_in (all_but c.self.inside.opens c.in_ok-duty.place)
    (Gives c.args.queue)) same) owed c.take.ensures.rest)
