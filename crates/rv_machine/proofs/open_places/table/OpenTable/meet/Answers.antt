-- The first of the line that the arrival faces left it.
use Rattle.std.proofs.Common.{◌≡◌, ◌<◌, ◌∷◌, ◌∙◌, ap, subst, sym, refl, arith, length, List, Option, Some}
use Rattle.std.proofs.Common.{IsSome, ℕ}
use Rattle.rv_text.specs.Calls.{side_of, wait_of}
use Rattle.rv_text.specs.declared.call.Side.{Side}
use Rattle.rv_account.specs.state.State.{OpenPlace}
use Rattle.rv_account.proofs.OfState.Words.{same_Some}
use Rattle.rv_machine.specs.open_places.OpenMap.{StandBelow, found_at, line_in, opposed_in, all_but}
use Rattle.rv_machine.specs.open_places.OpenMap.{without_limit}
use Rattle.rv_machine.specs.open_places.Indexed.{ClosesFirst}
use Rattle.rv_machine.proofs.OfOpenPlaces.Firsts.{closed_first, closes_first, count_first, owed_there}
use Rattle.rv_machine.proofs.OfOpenPlaces.Indexing.{LeftLine}
use Rattle.rv_machine.proofs.OfOpenPlaces.Meetings.{are_below, met, room_needless}
use Rattle.rv_machine.proofs.open_places.table.OpenTable.meet.Goals as goal

pub arrive-partner-requires-clause-room : goal.arrive-partner-requires-clause-room
arrive-partner-requires-clause-room c =
    room_needless c.self.inside.opens c.self.inside.wait_queues c.self.inside.waiting c.self.inside.due
    (side_of c.args.call.now) (wait_of c.args.call.now) c.self.invariant
    (subst (λ (all : List OpenPlace). 0 < length (opposed_in all (side_of c.args.call.now)))
    (sym c.self.view_is)
    c.requires.some)

pub arrive-partner-requires-clause-above : goal.arrive-partner-requires-clause-above
arrive-partner-requires-clause-above c =
    are_below c.self.inside.opens c.self.inside.wait_queues c.self.inside.waiting c.args.duty.place
    c.self.inside.due
    c.self.invariant
    (subst (λ (all : List OpenPlace). StandBelow all c.args.duty.place) (sym c.self.view_is) c.requires.above)

pub unwrap-requires : goal.unwrap-requires
unwrap-requires c =
    let m = met c.self.inside.opens c.self.inside.wait_queues c.arrive-partner.new.self c.self.inside.waiting
    c.self.inside.due (side_of c.args.call.now) (wait_of c.args.call.now) c.args.duty c.arrive-partner.result
    c.self.invariant
    (subst (λ (all : List OpenPlace). 0 < length (opposed_in all (side_of c.args.call.now)))
    (sym c.self.view_is)
    c.requires.some)
    (subst (λ (all : List OpenPlace). StandBelow all c.args.duty.place) (sym c.self.view_is) c.requires.above)
    c.arrive-partner.ensures in
    subst (λ (o : Option ℕ). IsSome o) (sym m.partner_is) refl

pub unwrap-there-requires : goal.unwrap-there-requires
unwrap-there-requires c =
    let m = met c.self.inside.opens c.self.inside.wait_queues c.arrive-partner.new.self c.self.inside.waiting
    c.self.inside.due (side_of c.args.call.now) (wait_of c.args.call.now) c.args.duty c.arrive-partner.result
    c.self.invariant
    (subst (λ (all : List OpenPlace). 0 < length (opposed_in all (side_of c.args.call.now)))
    (sym c.self.view_is)
    c.requires.some)
    (subst (λ (all : List OpenPlace). StandBelow all c.args.duty.place) (sym c.self.view_is) c.requires.above)
    c.arrive-partner.ensures in
    let at : m.partner ≡ c.unwrap.result = same_Some _ _ (sym m.partner_is ∙ c.unwrap.ensures) in
    subst (λ (o : Option OpenPlace). IsSome o)
    (sym (c.take.ensures.found ∙ ap (found_at c.self.inside.opens) (sym at) ∙ m.left.found)) refl

pub overflow_sub-self : goal.overflow_sub-self
overflow_sub-self c =
    let m = met c.self.inside.opens c.self.inside.wait_queues c.arrive-partner.new.self c.self.inside.waiting
    c.self.inside.due (side_of c.args.call.now) (wait_of c.args.call.now) c.args.duty c.arrive-partner.result
    c.self.invariant
    (subst (λ (all : List OpenPlace). 0 < length (opposed_in all (side_of c.args.call.now)))
    (sym c.self.view_is)
    c.requires.some)
    (subst (λ (all : List OpenPlace). StandBelow all c.args.duty.place) (sym c.self.view_is) c.requires.above)
    c.arrive-partner.ensures in
    let at : m.partner ≡ c.unwrap.result = same_Some _ _ (sym m.partner_is ∙ c.unwrap.ensures) in
    let found = sym c.take.ensures.found ∙ c.unwrap-there.ensures in
    let here = ap (found_at c.self.inside.opens) at ∙ found in
    let same : m.left.there ≡ c.unwrap-there.result = same_Some _ _ (sym m.left.found ∙ here) in
    let owed = owed_there c.self.inside.opens m.partner c.unwrap-there.result c.arrive-partner.result.other
    here
    m.owed in
    let rest = c.take.ensures.rest ∙ ap (all_but c.self.inside.opens) (sym at) in
    let counted = count_first c.self.inside.opens c.self.inside.wait_queues c.self.inside.waiting
    c.self.inside.due
    m.partner c.unwrap-there.result c.arrive-partner.result.other c.self.invariant here owed in
    omega (arith, counted, c.owing.ensures)

pub invariant_of-self : goal.invariant_of-self
invariant_of-self c =
    let m = met c.self.inside.opens c.self.inside.wait_queues c.arrive-partner.new.self c.self.inside.waiting
    c.self.inside.due (side_of c.args.call.now) (wait_of c.args.call.now) c.args.duty c.arrive-partner.result
    c.self.invariant
    (subst (λ (all : List OpenPlace). 0 < length (opposed_in all (side_of c.args.call.now)))
    (sym c.self.view_is)
    c.requires.some)
    (subst (λ (all : List OpenPlace). StandBelow all c.args.duty.place) (sym c.self.view_is) c.requires.above)
    c.arrive-partner.ensures in
    let at : m.partner ≡ c.unwrap.result = same_Some _ _ (sym m.partner_is ∙ c.unwrap.ensures) in
    let found = sym c.take.ensures.found ∙ c.unwrap-there.ensures in
    let here = ap (found_at c.self.inside.opens) at ∙ found in
    let same : m.left.there ≡ c.unwrap-there.result = same_Some _ _ (sym m.left.found ∙ here) in
    let owed = owed_there c.self.inside.opens m.partner c.unwrap-there.result c.arrive-partner.result.other
    here
    m.owed in
    let rest = c.take.ensures.rest ∙ ap (all_but c.self.inside.opens) (sym at) in
    closed_first c.self.inside.opens _ c.self.inside.wait_queues c.arrive-partner.new.self
    c.self.inside.waiting _
    c.owing.result c.self.inside.due _ m.partner c.unwrap-there.result c.arrive-partner.result.other
    c.self.invariant here owed c.owing.ensures rest
    (subst (LeftLine c.self.inside.opens c.self.inside.wait_queues c.arrive-partner.new.self) same
    m.left.left)
    refl
    (c.forget.ensures
    ∙ ap (λ (p : ℕ). without_limit c.unwrap-there.result.limit p c.self.inside.due)
    (ap (λ (o : OpenPlace). o.place) (sym same) ∙ m.left.at_place))

pub returns-clause-met : goal.returns-clause-met
returns-clause-met c =
    let m = met c.self.inside.opens c.self.inside.wait_queues c.arrive-partner.new.self c.self.inside.waiting
    c.self.inside.due (side_of c.args.call.now) (wait_of c.args.call.now) c.args.duty c.arrive-partner.result
    c.self.invariant
    (subst (λ (all : List OpenPlace). 0 < length (opposed_in all (side_of c.args.call.now)))
    (sym c.self.view_is)
    c.requires.some)
    (subst (λ (all : List OpenPlace). StandBelow all c.args.duty.place) (sym c.self.view_is) c.requires.above)
    c.arrive-partner.ensures in
    let at : m.partner ≡ c.unwrap.result = same_Some _ _ (sym m.partner_is ∙ c.unwrap.ensures) in
    let found = sym c.take.ensures.found ∙ c.unwrap-there.ensures in
    let here = ap (found_at c.self.inside.opens) at ∙ found in
    let same : m.left.there ≡ c.unwrap-there.result = same_Some _ _ (sym m.left.found ∙ here) in
    let owed = owed_there c.self.inside.opens m.partner c.unwrap-there.result c.arrive-partner.result.other
    here
    m.owed in
    let rest = c.take.ensures.rest ∙ ap (all_but c.self.inside.opens) (sym at) in
    subst (λ (o : Option Side). ClosesFirst c.args.self.now c.take.new.self o c.unwrap-there.result
    c.arrive-partner.result.other) (sym m.opposes)
    (subst (λ (all : List OpenPlace). ClosesFirst all c.take.new.self (Some m.other) c.unwrap-there.result
    c.arrive-partner.result.other) c.self.view_is
    (closes_first c.self.inside.opens c.take.new.self m.other m.partner c.unwrap-there.result
    c.arrive-partner.result.other here (ap (λ (o : OpenPlace). o.place) (sym same) ∙ m.left.at_place)
    (m.left.line ∙ ap (λ (o : OpenPlace). o ∷ line_in (all_but c.self.inside.opens m.partner) m.other) same)
    owed rest))
