use Rattle.std.proofs.Common.{◌∙◌, List, ap, sym}
use Rattle.rv_journal.specs.folders.Folder.{given_now}
use Rattle.rv_journal.specs.folders.Memory.{memory_names, names_after}
use Rattle.rv_journal.specs.declared.folders.testing.memory.NameChange.{NameChange}
use Rattle.rv_journal.specs.Memory.{memory_disk}
use Rattle.rv_journal.proofs.OfFolders.MemoryNames.{is_made, is_none, same_given}
use Rattle.rv_journal.proofs.folders.testing.memory.KeptNames.make.Goals as goal

pub returns-clause-named : goal.returns-clause-named
returns-clause-named c = is_made c.args.name _ (given_now memory_disk c.in_ok-file.file)
    (memory_names c.args.self.now) (memory_names c.change.new.self)
    (c.in_ok-change.ensures.kept, c.change.ensures.stored)
    (same_given (sym c.in_ok-file.ensures.number) (sym c.in_ok-file.ensures.began))
    (ap (λ (l : List NameChange). names_after l c.args.name) (sym c.deref.ensures.value)
    ∙ sym c.file_of.ensures ∙ is_none c.file_of.result c.in_default.not-Some)
