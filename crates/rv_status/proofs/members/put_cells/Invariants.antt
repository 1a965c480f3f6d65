-- What stood before, and the tokens of those that the loop passed.
use Rattle.std.proofs.Common.{◌≡◌, ◌++◌, take}
use Rattle.std.specs.Prelude.{map}
use Rattle.rv_status.specs.Values.{cell_token}
use Rattle.rv_status.proofs.members.put_cells.Given as goal

abbrev pub invariant-loop-cell : goal.invariant-loop-cell
invariant-loop-cell l =
    (l.writer.tokens ≡ l.initial.writer.tokens ++ map cell_token (take l.cell-index l.cells))
    × (l.writer.before ≡ l.initial.writer.before)
