use Rattle.std.proofs.Common.{◌≡◌, ◌≤◌, ◌<◌, take}
use Rattle.std.specs.List.{All}
use Rattle.rv_journal.specs.Text.{whole_lines}
use Rattle.rv_journal.proofs.cutter.ends_of.Given as goal

abbrev pub invariant-loop-i : goal.invariant-loop-i
invariant-loop-i l = (l.lines ≤ l.i) × All (λ byte. 0 < byte) (take l.i l.bytes)
    × (take l.lines l.bytes ≡ whole_lines (take l.i l.bytes))
