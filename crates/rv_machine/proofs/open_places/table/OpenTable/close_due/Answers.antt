-- The least deadline is that of the first that is due.
use Rattle.std.proofs.Common.{◌∙◌, ap, subst, sym, refl, arith, List, Option, IsSome}
use Rattle.rv_session.specs.OwedDuty.{OwedDuty}
use Rattle.rv_due.specs.Deadlines.{Deadline}
use Rattle.rv_due.proofs.Kept.{if_none}
use Rattle.rv_account.specs.state.State.{OpenPlace}
use Rattle.rv_machine.specs.open_places.OpenMap.{due_in}
use Rattle.rv_machine.specs.open_places.Indexed.{ClosesDue}
use Rattle.rv_machine.proofs.OfOpenPlaces.Fronts.{closes_due, due_out, due_there, nothing_due, without_its}
use Rattle.rv_machine.proofs.OfOpenPlaces.Indexing.{closed_waiting, fits_found, one_waits, withdrawn}
use Rattle.rv_machine.proofs.open_places.table.OpenTable.close_due.Goals as goal

pub returns-in_err-place-clause-none : goal.returns-in_err-place-clause-none
returns-in_err-place-clause-none c =
    if_none c.from_residual.result
    (ap (λ (all : List OpenPlace). due_in all c.args.moment) (sym c.self.view_is)
    ∙ nothing_due c.self.inside.opens c.self.inside.wait_queues c.self.inside.waiting c.args.moment
    c.self.inside.due c.self.invariant c.in_err-place.ensures.none_due)

pub unwrap-there-requires : goal.unwrap-there-requires
unwrap-there-requires c =
    let d : Deadline = (c.in_ok-place.field-0-0, c.in_ok-place.place) in
    let at = due_there c.self.inside.opens c.self.inside.wait_queues c.self.inside.waiting c.args.moment
    c.self.inside.due d c.self.invariant c.in_ok-place.ensures.least in
    subst (λ (o : Option OpenPlace). IsSome o) (sym (c.take.ensures.found ∙ at.found)) refl

pub withdraw-requires : goal.withdraw-requires
withdraw-requires c =
    fits_found c.self.inside.opens c.self.inside.wait_queues c.self.inside.waiting c.self.inside.due
    c.in_ok-place.place c.unwrap-there.result c.self.invariant
    (sym c.take.ensures.found ∙ c.unwrap-there.ensures)

pub unwrap-duty-requires : goal.unwrap-duty-requires
unwrap-duty-requires c =
    let d : Deadline = (c.in_ok-place.field-0-0, c.in_ok-place.place) in
    let found = sym c.take.ensures.found ∙ c.unwrap-there.ensures in
    let out = due_out c.self.inside.opens c.self.inside.wait_queues c.self.inside.waiting c.args.moment
    c.self.inside.due d c.unwrap-there.result c.self.invariant c.in_ok-place.ensures.least found in
    let gone = withdrawn c.self.inside.opens c.self.inside.wait_queues c.withdraw.new.self
    c.self.inside.waiting
    c.self.inside.due d.1 c.unwrap-there.result c.withdraw.result c.self.invariant found out.waits
    c.withdraw.ensures in
    subst (λ (o : Option OwedDuty). IsSome o) (sym gone.is) refl

pub overflow_sub-self : goal.overflow_sub-self
overflow_sub-self c =
    let d : Deadline = (c.in_ok-place.field-0-0, c.in_ok-place.place) in
    let found = sym c.take.ensures.found ∙ c.unwrap-there.ensures in
    let out = due_out c.self.inside.opens c.self.inside.wait_queues c.self.inside.waiting c.args.moment
    c.self.inside.due d c.unwrap-there.result c.self.invariant c.in_ok-place.ensures.least found in
    let one = one_waits c.self.inside.opens c.self.inside.wait_queues c.self.inside.waiting c.self.inside.due
    d.1
    c.unwrap-there.result c.self.invariant found out.waits in
    omega (arith, one)

pub invariant_of-self-2 : goal.invariant_of-self-2
invariant_of-self-2 c =
    let d : Deadline = (c.in_ok-place.field-0-0, c.in_ok-place.place) in
    let found = sym c.take.ensures.found ∙ c.unwrap-there.ensures in
    let out = due_out c.self.inside.opens c.self.inside.wait_queues c.self.inside.waiting c.args.moment
    c.self.inside.due d c.unwrap-there.result c.self.invariant c.in_ok-place.ensures.least found in
    let gone = withdrawn c.self.inside.opens c.self.inside.wait_queues c.withdraw.new.self
    c.self.inside.waiting
    c.self.inside.due d.1 c.unwrap-there.result c.withdraw.result c.self.invariant found out.waits
    c.withdraw.ensures in
    closed_waiting c.self.inside.opens _ c.self.inside.wait_queues _ c.self.inside.waiting _ c.self.inside.due
    _
    d.1 c.unwrap-there.result c.self.invariant found out.waits c.take.ensures.rest gone.left refl
    (c.in_ok-place.ensures.taken
    ∙ without_its c.self.inside.due d c.unwrap-there.result.limit out.has)

pub returns-clause-some : goal.returns-clause-some
returns-clause-some c =
    let d : Deadline = (c.in_ok-place.field-0-0, c.in_ok-place.place) in
    let found = sym c.take.ensures.found ∙ c.unwrap-there.ensures in
    let out = due_out c.self.inside.opens c.self.inside.wait_queues c.self.inside.waiting c.args.moment
    c.self.inside.due d c.unwrap-there.result c.self.invariant c.in_ok-place.ensures.least found in
    let gone = withdrawn c.self.inside.opens c.self.inside.wait_queues c.withdraw.new.self
    c.self.inside.waiting
    c.self.inside.due d.1 c.unwrap-there.result c.withdraw.result c.self.invariant found out.waits
    c.withdraw.ensures in
    subst (λ (all : List OpenPlace). ClosesDue all c.take.new.self c.args.moment c.unwrap-there.result
    c.unwrap-duty.result) c.self.view_is
    (closes_due c.self.inside.opens c.take.new.self c.args.moment d c.unwrap-there.result
    c.unwrap-duty.result out found (gone.owed ∙ sym gone.is ∙ c.unwrap-duty.ensures) c.take.ensures.rest)
