-- The places rise, so a binary search finds the slot of a place, or that there is none.
use Rattle.std.proofs.Common.{◌≡◌, ℕ, Option, Some, sym, subst, rules}
use Rattle.std.specs.Prelude.{IfSome, IfNone, slice_get}
use Rattle.std.proofs.lemmas.List.Sorted.{answers_always}
use Rattle.rv_dual.specs.Slots.{NoSlotAt, slot_place, slot_places}
use Rattle.rv_dual.proofs.Searching.{found_slot, no_slot}
use Rattle.rv_dual.proofs.line.slot_at.Goals as goal

pub returns-clause-found : goal.returns-clause-found
returns-clause-found g c =
    let facts = c.binary_search_by_key.ensures in
    let by_place = facts.position (slot_place g.T.StandsInLine.place_of) (answers_always _ _ _
    (λ f a r h called. search rules)) in
    let P : Option ℕ
    → Type 0 = λ o. IfSome o (λ i. slice_get (slot_places g.T.StandsInLine.place_of
    c.args.slots.now.items) i ≡ Some c.args.place) in
    subst P (sym c.ok.ensures.value) (found_slot g.T.StandsInLine.place_of _ c.args.place _
    (rw (sym c.args.slots.now.ok.0) facts.bound) by_place)

pub returns-clause-none : goal.returns-clause-none
returns-clause-none g c =
    let facts = c.binary_search_by_key.ensures in
    let by_place = facts.position (slot_place g.T.StandsInLine.place_of) (answers_always _ _ _
    (λ f a r h called. search rules)) in
    let P : Option ℕ
    → Type 0 = λ o. IfNone o (NoSlotAt g.T.StandsInLine.place_of c.args.place c.args.slots.now.items) in
    subst P (sym c.ok.ensures.value) (no_slot g.T.StandsInLine.place_of _ c.args.place _ c.requires
    (rw (sym c.args.slots.now.ok.0) facts.bound) by_place)
