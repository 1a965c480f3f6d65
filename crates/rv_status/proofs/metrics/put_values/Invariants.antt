-- What stood before, and the texts of those that the loop passed.
use Rattle.std.proofs.Common.{◌≡◌, ◌++◌, take}
use Rattle.std.specs.Prelude.{flat_map, string_bytes}
use Rattle.rv_status.specs.Texts.{labelled_text}
use Rattle.rv_status.proofs.metrics.put_values.Given as goal

abbrev pub invariant-loop-row : goal.invariant-loop-row
invariant-loop-row l = string_bytes l.text ≡ string_bytes l.initial.text ++ flat_map (labelled_text l.side)
    (take l.row-index l.rows)
