-- One that was open before is open again.
use Rattle.std.proofs.Common.{◌∙◌, ◌+◌, ◌++◌, ◌∷◌, [], ap, arith, subst, sym, List}
use Rattle.rv_due.specs.Deadlines.{Deadlines}
use Rattle.rv_account.specs.state.State.{OpenPlace}
use Rattle.rv_machine.specs.open_places.Indexed.{AreIndexed}
use Rattle.rv_machine.specs.open_places.OpenMap.{StandBelow}
use Rattle.rv_machine.specs.open_places.Reopening.{MayReopen}
use Rattle.rv_machine.proofs.OfOpenPlaces.Laying.{all_below}
use Rattle.rv_machine.proofs.OfOpenPlaces.Parking.{same_index}
use Rattle.rv_machine.proofs.OfOpenPlaces.Reopened.{can_claim, claims_up_to, counts, reopened}
use Rattle.rv_machine.proofs.open_places.table.OpenTable.reopen.Goals as goal

pub overflow_add-self : goal.overflow_add-self
overflow_add-self c =
    let may = subst (λ (all : List OpenPlace). MayReopen all c.args.opened c.args.claims.now)
    (sym c.self.view_is) c.requires in
    omega (
      arith,
      counts c.self.inside.opens c.self.inside.wait_queues c.self.inside.waiting c.owing.result
          c.self.inside.due
          c.args.opened c.args.claims.now c.owed-duty.result c.self.invariant may c.owing.ensures,
    )

pub lay-requires-2-clause-above : goal.lay-requires-2-clause-above
lay-requires-2-clause-above c =
    let may = subst (λ (all : List OpenPlace). MayReopen all c.args.opened c.args.claims.now)
    (sym c.self.view_is) c.requires in
    let is = same_index c.self.inside.opens c.self.inside.wait_queues c.reserve_on.new.self
    c.self.inside.waiting
    c.self.inside.due c.self.invariant c.in_ok-reserve_on.ensures.makes.same in
    all_below c.self.inside.opens c.reserve_on.new.self c.self.inside.waiting c.self.inside.due c.args.opened
    is may.below

pub invariant_of-self-2 : goal.invariant_of-self-2
invariant_of-self-2 c =
    let may = subst (λ (all : List OpenPlace). MayReopen all c.args.opened c.args.claims.now)
    (sym c.self.view_is) c.requires in
    let is = same_index c.self.inside.opens c.self.inside.wait_queues c.reserve_on.new.self
    c.self.inside.waiting
    c.self.inside.due c.self.invariant c.in_ok-reserve_on.ensures.makes.same in
    subst (λ (all : List OpenPlace). AreIndexed all c.lay-2.new.self
    (c.self.inside.waiting + c.owing.result) c.lay.new.due) (sym c.in_ok-lay.ensures.opened)
    (reopened c.self.inside.opens c.reserve_on.new.self c.lay-2.new.self c.self.inside.waiting c.owing.result
    c.self.inside.due c.lay.new.due c.args.opened c.args.claims.now c.owed-duty.result is may
    c.owed-duty.ensures.duty c.lay-2.ensures c.owing.ensures c.in_ok-lay.ensures.limit)

pub owed-duty-requires : goal.owed-duty-requires
owed-duty-requires c = can_claim c.args.opened c.args.claims.now c.requires.stands c.requires.unclaimed

pub returns-clause-last : goal.returns-clause-last
returns-clause-last c =
    claims_up_to c.args.opened c.args.claims.now.table.clients c.requires.stands c.args.claims.now.last
    c.owed-duty.new.claims.last c.owed-duty.result c.owed-duty.ensures.duty c.owed-duty.ensures.last

pub returns-in_err-reserve_on-clause-last : goal.returns-in_err-reserve_on-clause-last
returns-in_err-reserve_on-clause-last c = λ other above is. is

pub lay-requires : goal.lay-requires
lay-requires c =
    subst (λ (all : List OpenPlace). StandBelow all c.args.opened.place) (sym c.self.view_is)
    c.requires.below

pub invariant_of-self-in_err-lay : goal.invariant_of-self-in_err-lay
invariant_of-self-in_err-lay c =
    let is = same_index c.self.inside.opens c.self.inside.wait_queues c.reserve_on.new.self
    c.self.inside.waiting
    c.self.inside.due c.self.invariant c.in_ok-reserve_on.ensures.makes.same in
    subst (λ (due : Deadlines). AreIndexed c.lay.new.opens c.reserve_on.new.self c.self.inside.waiting due)
    (sym c.in_err-lay.ensures.due)
    (subst (λ (all : List OpenPlace). AreIndexed all c.reserve_on.new.self c.self.inside.waiting
    c.self.inside.due)
    (sym c.in_err-lay.ensures.opens) is)

pub returns-in_err-lay-clause-last : goal.returns-in_err-lay-clause-last
returns-in_err-lay-clause-last c = λ other above is. is

pub returns-clause-ok : goal.returns-clause-ok
returns-clause-ok c =
    c.in_ok-lay.ensures.opened ∙ ap (λ (all : List OpenPlace). all ++ c.args.opened ∷ []) c.self.view_is
