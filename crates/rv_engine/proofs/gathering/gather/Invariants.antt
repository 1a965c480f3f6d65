use Rattle.std.proofs.Common.{◌≡◌, ◌++◌, string_bytes, take}
use Rattle.rv_engine.specs.Handing.{entry_lines}
use Rattle.rv_engine.proofs.gathering.gather.Given as goal

abbrev pub invariant-loop-entry : goal.invariant-loop-entry
invariant-loop-entry l =
    (l.count ≡ l.entry-index) × (string_bytes l.lines
    ≡ string_bytes l.fn.lines ++ entry_lines (take l.entry-index l.entries))
