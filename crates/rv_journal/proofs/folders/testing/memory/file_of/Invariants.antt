-- What the name stands for after the changes so far.
use Rattle.std.proofs.Common.{◌≡◌, option_map, take}
use Rattle.rv_journal.specs.folders.Memory.{given_file, names_after}
use Rattle.rv_journal.proofs.folders.testing.memory.file_of.Given as goal

abbrev pub invariant-loop-change : goal.invariant-loop-change
invariant-loop-change l = option_map given_file l.file ≡ names_after (take l.change-index l.changes) l.name
