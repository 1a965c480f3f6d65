use Rattle.std.proofs.Common.{List, ◌∙◌, ap, arith}
use Rattle.std.proofs.lemmas.List.{take_all}
use Rattle.rv_journal.specs.folders.Memory.{names_after}
use Rattle.rv_journal.specs.declared.folders.testing.memory.NameChange.{NameChange}
use Rattle.rv_journal.proofs.OfFolders.Changes.{stands_after}
use Rattle.rv_journal.proofs.folders.testing.memory.file_of.Goals as goal

pub loop-change-preserved : goal.loop-change-preserved
loop-change-preserved c = stands_after c.args.changes.now c.loop-change.change-index _ c.args.name _ _
    c.loop-change-test.true c.loop-change.invariant c.after-file.ensures

pub returns : goal.returns
returns c = c.loop-change.invariant ∙ ap (λ (l : List NameChange). names_after l c.args.name)
    (take_all c.loop-change.change-index c.args.changes.now (omega (arith, c.loop-change-test.false)))
