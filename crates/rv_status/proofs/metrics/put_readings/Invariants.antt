-- What stood before, and the texts of those that the loop passed.
use Rattle.std.proofs.Common.{◌≡◌, ◌++◌, take}
use Rattle.std.specs.Prelude.{flat_map, string_bytes}
use Rattle.rv_status.specs.Rows.{reading_row}
use Rattle.rv_status.specs.Texts.{row_text}
use Rattle.rv_status.proofs.metrics.put_readings.Given as goal

abbrev pub invariant-loop-reading : goal.invariant-loop-reading
invariant-loop-reading l = string_bytes l.text ≡ string_bytes l.initial.text ++ flat_map
    (λ r. row_text (reading_row r))
    (take l.reading-index l.readings)
