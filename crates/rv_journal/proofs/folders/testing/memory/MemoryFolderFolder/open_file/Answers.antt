use Rattle.std.proofs.Common.{subst}
use Rattle.rv_journal.specs.folders.Folder.{ChangesNames, GivenFile, name_made}
use Rattle.rv_journal.specs.folders.Memory.{MemoryNames, memory_directory, memory_names}
use Rattle.rv_journal.proofs.OfFolders.MemoryNames.{may_make}
use Rattle.rv_journal.proofs.folders.testing.memory.MemoryFolderFolder.open_file.Goals as goal

pub returns-in_err-make-clause-changes : goal.returns-in_err-make-clause-changes
returns-in_err-make-clause-changes c =
    let new = memory_names c.make.new.self in
    subst (λ (old : MemoryNames). (file : GivenFile)
    × ChangesNames memory_directory (name_made c.args.name file) old new) c.self.view_is
    (may_make c.args.name (memory_names c.self.inside.kept) new c.make.ensures.changed c.self.invariant)

pub returns-clause-changes : goal.returns-clause-changes
returns-clause-changes c =
    let new = memory_names c.make.new.self in
    subst (λ (old : MemoryNames). (file : GivenFile)
    × ChangesNames memory_directory (name_made c.args.name file) old new) c.self.view_is
    (may_make c.args.name (memory_names c.self.inside.kept) new c.make.ensures.changed c.self.invariant)
