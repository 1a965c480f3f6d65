use Rattle.std.proofs.Common.{◌∙◌, ap}
use Rattle.rv_journal.specs.folders.Memory.{MemoryNames, memory_names, names_after}
use Rattle.rv_journal.specs.declared.folders.folder.FileName.TheVariants.{Account}
use Rattle.rv_journal.proofs.OfFolders.MemoryNames.{others_same}
use Rattle.rv_journal.proofs.folders.testing.memory.MemoryFolder.add_account.Goals as goal

pub returns-in_err-make-clause-others : goal.returns-in_err-make-clause-others
returns-in_err-make-clause-others c name other =
    others_same (Account c.args.epoch) (memory_names c.self.inside.kept) (memory_names c.make.new.self)
    c.make.ensures.changed name other
    ∙ ap (λ (n : MemoryNames). names_after n.changes name) c.self.view_is
