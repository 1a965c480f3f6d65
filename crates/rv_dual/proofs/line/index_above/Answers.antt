-- The slots after a partition point are those above the place.
use Rattle.std.proofs.Common.{Option, ℕ, ◌≡◌, drop, map, sym, subst, rules}
use Rattle.std.specs.Prelude.{slice_get}
use Rattle.std.proofs.Math.Dec.{leb}
use Rattle.std.proofs.lemmas.List.Sorted.{IsPartitionPoint-from_clause, IsPartitionedBy-leb}
use Rattle.rv_dual.specs.Above.{first_above}
use Rattle.rv_dual.specs.Slots.{slot_place, waiting_in}
use Rattle.rv_dual.proofs.Reading.{first_after, first_of_all, never_falls}
use Rattle.rv_dual.proofs.line.index_above.Goals as goal

pub returns-in-Some-clause-above : goal.returns-in-Some-clause-above
returns-in-Some-clause-above g c =
    let slots = c.args.slots.now.items in
    let parted = IsPartitionPoint-from_clause (λ s. leb (slot_place g.T.StandsInLine.place_of s)
    c.in-Some.place) slots c.partition_point.result c.partition_point.ensures.partitioned
    (IsPartitionedBy-leb (slot_place g.T.StandsInLine.place_of) slots c.in-Some.place
    (never_falls g.T.StandsInLine.place_of slots c.requires)) (λ a r f' k. search rules) in
    subst (λ (o : Option ℕ). slice_get (map g.T.StandsInLine.place_of (waiting_in
    (drop c.partition_point.result slots))) 0 ≡ first_above o (map g.T.StandsInLine.place_of
    (waiting_in slots))) (sym c.in-Some.is)
    (first_after g.T.StandsInLine.place_of c.in-Some.place slots c.partition_point.result parted)

pub returns-in-None-clause-above : goal.returns-in-None-clause-above
returns-in-None-clause-above g c =
    let places = map g.T.StandsInLine.place_of (waiting_in c.args.slots.now.items) in
    subst (λ (o : Option ℕ). slice_get places 0 ≡ first_above o places) (sym c.in-None.is)
    (first_of_all places)
