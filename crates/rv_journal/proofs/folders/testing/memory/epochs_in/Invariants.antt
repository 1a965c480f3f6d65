-- The epochs that the changes so far gave a file, and that still have one.
use Rattle.std.proofs.Common.{take}
use Rattle.rv_journal.proofs.OfFolders.ListedEpochs.{ListsEpochs}
use Rattle.rv_journal.proofs.folders.testing.memory.epochs_in.Given as goal

abbrev pub invariant-loop-change : goal.invariant-loop-change
invariant-loop-change l = ListsEpochs l.changes (take l.change-index l.changes) l.epochs.items
