-- All the texts are those that were read, and after them those of the values that are left.
use Rattle.std.proofs.Common.{◌≡◌, ◌++◌, length, option_map}
use Rattle.std.specs.Vec.Iter.{into_iter_items, into_iter_len}
use Rattle.serde_json.specs.View.{items_view}
use Rattle.rv_json.specs.Finding.{texts_of}
use Rattle.rv_json.proofs.members.take_each_text.Given as goal

abbrev pub invariant-loop-value : goal.invariant-loop-value
invariant-loop-value l =
    (texts_of (items_view l.fn.values.items) ≡ option_map (λ rest. l.items ++ rest)
    (texts_of (items_view (into_iter_items l.value-iterator))))
    × (into_iter_len l.value-iterator ≡ length (into_iter_items l.value-iterator))
