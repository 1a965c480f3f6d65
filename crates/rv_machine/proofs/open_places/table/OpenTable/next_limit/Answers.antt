-- The least deadline is of the first that is due.
use Rattle.std.proofs.Common.{List, subst}
use Rattle.rv_due.proofs.Kept.{if_none}
use Rattle.rv_account.specs.state.State.{OpenPlace}
use Rattle.rv_machine.specs.open_places.OpenMap.{IsFirstDue, NeverDue}
use Rattle.rv_machine.proofs.OfOpenPlaces.Fronts.{first_due_at, never_due}
use Rattle.rv_machine.proofs.open_places.table.OpenTable.next_limit.Goals as goal

pub returns-in_err-first-clause-none : goal.returns-in_err-first-clause-none
returns-in_err-first-clause-none c =
    if_none c.from_residual.result (subst (λ (all : List OpenPlace). NeverDue all) c.self.view_is
    (never_due c.self.inside.opens c.self.inside.wait_queues c.self.inside.waiting c.self.inside.due
    c.self.invariant c.in_err-first.ensures.none))

pub returns-clause-some : goal.returns-clause-some
returns-clause-some c =
    let d = c.in_ok-first.field-0 in
    subst (λ (all : List OpenPlace). IsFirstDue all d.0) c.self.view_is
    (first_due_at c.self.inside.opens c.self.inside.wait_queues c.self.inside.waiting c.self.inside.due d
    c.self.invariant c.in_ok-first.ensures.least)
