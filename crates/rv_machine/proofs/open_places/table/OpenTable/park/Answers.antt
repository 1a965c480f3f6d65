-- One more is open, after all others.
use Rattle.std.proofs.Common.{◌≡◌, ◌<◌, ◌≤◌, ◌∙◌, ◌+◌, ◌++◌, ◌-◌, ◌∷◌, [], ap, arith, cond, subst, sym}
use Rattle.std.proofs.Common.{Bool, true, false, List, ℕ}
use Rattle.rv_text.specs.declared.call.Call.{Call}
use Rattle.rv_text.specs.Calls.{side_of, wait_of}
use Rattle.rv_text.specs.Limits.{FitsSide}
use Rattle.rv_due.specs.Deadlines.{Deadlines}
use Rattle.rv_session.specs.OwedDuty.{OwedDuty}
use Rattle.rv_account.specs.state.State.{OpenPlace}
use Rattle.rv_model_queues.specs.Meeting.{ArrivedOn}
use Rattle.rv_machine.specs.open_places.OpenMap.{StandBelow, count_waiting, most_counted}
use Rattle.rv_machine.specs.open_places.Indexed.{AreIndexed, MayPark, own_duty}
use Rattle.rv_machine.proofs.OfOpenPlaces.Meetings.{are_below}
use Rattle.rv_machine.proofs.OfOpenPlaces.Parking.{counted_back, nobody_owed, own_back, parked_index}
use Rattle.rv_machine.proofs.OfOpenPlaces.Parking.{same_index}
use Rattle.rv_machine.proofs.open_places.table.OpenTable.park.Goals as goal

one_at_most : (b : Bool) (n : ℕ) → n ≡ cond b 1 0 → n ≤ 1
one_at_most true n is = omega (arith, is)
one_at_most false n is = omega (arith, is)

pub arrive-requires-clause-above : goal.arrive-requires-clause-above
arrive-requires-clause-above c =
    let may = subst (λ (x : Call). MayPark c.self.inside.opens c.args.opened c.args.key.now x)
    (sym c.requires.copy)
    (subst (λ (all : List OpenPlace). MayPark all c.args.opened c.args.key.now c.args.call)
    (sym c.self.view_is)
    c.requires.may) in
    let is = same_index c.self.inside.opens c.self.inside.wait_queues c.lay_for.new.wait_queues
    c.self.inside.waiting
    c.self.inside.due c.self.invariant c.lay_for.ensures.makes.same in
    are_below c.self.inside.opens c.lay_for.new.wait_queues c.self.inside.waiting c.begin-duty.result.0.place
    c.self.inside.due is
    (subst (λ (d : OwedDuty). StandBelow c.self.inside.opens d.place) (sym c.begin-duty.ensures.duty)
    may.below)

pub parked-own-requires : goal.parked-own-requires
parked-own-requires c =
    let may = subst (λ (x : Call). MayPark c.self.inside.opens c.args.opened c.args.key.now x)
    (sym c.requires.copy)
    (subst (λ (all : List OpenPlace). MayPark all c.args.opened c.args.key.now c.args.call)
    (sym c.self.view_is)
    c.requires.may) in
    let is = same_index c.self.inside.opens c.self.inside.wait_queues c.lay_for.new.wait_queues
    c.self.inside.waiting
    c.self.inside.due c.self.invariant c.lay_for.ensures.makes.same in
    let arrived = subst (λ (d : OwedDuty). ArrivedOn c.lay_for.new.wait_queues c.arrive.new.self
    (side_of c.args.copy.now)
    (wait_of c.args.copy.now) d c.arrive.result) c.begin-duty.ensures.duty c.arrive.ensures in
    nobody_owed c.self.inside.opens c.lay_for.new.wait_queues c.arrive.new.self c.self.inside.waiting
    c.self.inside.due c.args.opened c.args.key.now c.args.copy.now c.arrive.result is may arrived

pub invariant_of-self : goal.invariant_of-self
invariant_of-self c =
    let may = subst (λ (x : Call). MayPark c.self.inside.opens c.args.opened c.args.key.now x)
    (sym c.requires.copy)
    (subst (λ (all : List OpenPlace). MayPark all c.args.opened c.args.key.now c.args.call)
    (sym c.self.view_is)
    c.requires.may) in
    let is = same_index c.self.inside.opens c.self.inside.wait_queues c.lay_for.new.wait_queues
    c.self.inside.waiting
    c.self.inside.due c.self.invariant c.lay_for.ensures.makes.same in
    let arrived = subst (λ (d : OwedDuty). ArrivedOn c.lay_for.new.wait_queues c.arrive.new.self
    (side_of c.args.copy.now)
    (wait_of c.args.copy.now) d c.arrive.result) c.begin-duty.ensures.duty c.arrive.ensures in
    let own = c.parked-own.ensures ∙ own_back c.self.inside.opens c.lay_for.new.wait_queues c.arrive.new.self
    c.self.inside.waiting c.self.inside.due c.args.opened c.args.key.now c.args.copy.now c.arrive.result is
    may
    arrived in
    subst (λ (all : List OpenPlace). AreIndexed all c.arrive.new.self
    (c.self.inside.waiting + (1 - c.owing.result)) c.lay_for.new.due) (sym c.in-Ok.ensures.opened)
    (parked_index c.self.inside.opens c.lay_for.new.wait_queues c.arrive.new.self c.self.inside.waiting
    c.self.inside.due c.args.opened c.args.key.now c.args.copy.now c.arrive.result is may arrived _
    c.lay_for.new.due
    (counted_back c.self.inside.opens c.lay_for.new.wait_queues c.arrive.new.self c.self.inside.waiting
    c.self.inside.due c.args.opened c.args.key.now c.args.copy.now c.arrive.result is may c.parked-own.result
    c.owing.result own c.owing.ensures) c.in-Ok.ensures.limit)

pub returns-in-Ok-clause-ok : goal.returns-in-Ok-clause-ok
returns-in-Ok-clause-ok c =
    let may = subst (λ (x : Call). MayPark c.self.inside.opens c.args.opened c.args.key.now x)
    (sym c.requires.copy)
    (subst (λ (all : List OpenPlace). MayPark all c.args.opened c.args.key.now c.args.call)
    (sym c.self.view_is)
    c.requires.may) in
    let is = same_index c.self.inside.opens c.self.inside.wait_queues c.lay_for.new.wait_queues
    c.self.inside.waiting
    c.self.inside.due c.self.invariant c.lay_for.ensures.makes.same in
    let arrived = subst (λ (d : OwedDuty). ArrivedOn c.lay_for.new.wait_queues c.arrive.new.self
    (side_of c.args.copy.now)
    (wait_of c.args.copy.now) d c.arrive.result) c.begin-duty.ensures.duty c.arrive.ensures in
    record {
      opens = c.in-Ok.ensures.opened ∙ ap (λ (all : List OpenPlace). all ++ c.args.opened ∷ [])
          c.self.view_is;
      begins = c.begin-duty.ensures.waits;
      own_is = c.parked-own.ensures
          ∙ own_back c.self.inside.opens c.lay_for.new.wait_queues c.arrive.new.self c.self.inside.waiting
          c.self.inside.due c.args.opened c.args.key.now c.args.copy.now c.arrive.result is may arrived
          ∙ ap (λ (x : Call). own_duty (wait_of x)
          (record { place = c.args.opened.place; client = c.args.key.now.client })) c.requires.copy;
    }

pub lay_for-requires-clause-fits : goal.lay_for-requires-clause-fits
lay_for-requires-clause-fits c =
    subst (λ (x : Call). FitsSide (side_of x)) (sym c.requires.copy) c.requires.may.fits

pub lay_for-requires-clause-below : goal.lay_for-requires-clause-below
lay_for-requires-clause-below c =
    subst (λ (all : List OpenPlace). StandBelow all c.args.opened.place) (sym c.self.view_is)
    c.requires.may.below

pub arrive-requires-clause-fits : goal.arrive-requires-clause-fits
arrive-requires-clause-fits c =
    subst (λ (x : Call). FitsSide (side_of x)) (sym c.requires.copy) c.requires.may.fits

pub overflow_sub-self : goal.overflow_sub-self
overflow_sub-self c = one_at_most _ c.owing.result c.owing.ensures

pub overflow_add-self : goal.overflow_add-self
overflow_add-self c =
    let few = subst (λ (all : List OpenPlace). count_waiting all < most_counted) (sym c.self.view_is)
    c.requires.may.few in
    omega (arith, few, c.self.invariant.counted)

pub invariant_of-self-in-Err : goal.invariant_of-self-in-Err
invariant_of-self-in-Err c =
    let is = same_index c.self.inside.opens c.self.inside.wait_queues c.lay_for.new.wait_queues
    c.self.inside.waiting
    c.self.inside.due c.self.invariant c.lay_for.ensures.makes.same in
    subst (λ (due : Deadlines). AreIndexed c.lay_for.new.opens c.lay_for.new.wait_queues
    c.self.inside.waiting due)
    (sym c.in-Err.ensures.due)
    (subst (λ (all : List OpenPlace). AreIndexed all c.lay_for.new.wait_queues c.self.inside.waiting
    c.self.inside.due)
    (sym c.in-Err.ensures.opens) is)

pub returns-in-Err-clause-same : goal.returns-in-Err-clause-same
returns-in-Err-clause-same c = c.in-Err.ensures.opens ∙ c.self.view_is
