-- The rows so far are the values so far.
use Rattle.std.proofs.Common.{map, take}
use Rattle.serde_json.specs.View.{view}
use Rattle.rv_end.specs.Told.{AreRows}
use Rattle.rv_end.proofs.told.read_rows.Given as goal

abbrev pub invariant-loop-value : goal.invariant-loop-value
invariant-loop-value l = AreRows (map view (take l.value-index l.values)) l.rows.items
