-- What stood before, and the tokens of those that the loop passed.
use Rattle.std.proofs.Common.{◌≡◌, ◌++◌, take}
use Rattle.std.specs.Prelude.{flat_map}
use Rattle.rv_status.specs.Rows.{reading_row}
use Rattle.rv_status.specs.Values.{number_tokens}
use Rattle.rv_status.proofs.members.put_readings.Given as goal

abbrev pub invariant-loop-reading : goal.invariant-loop-reading
invariant-loop-reading l =
    (l.writer.tokens ≡ l.initial.writer.tokens ++ flat_map (λ r. number_tokens (reading_row r))
    (take l.reading-index l.readings))
    × (l.writer.before ≡ l.initial.writer.before)
