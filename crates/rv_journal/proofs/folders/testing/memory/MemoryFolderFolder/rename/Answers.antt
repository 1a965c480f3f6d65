use Rattle.rv_journal.specs.folders.Folder.{given_now}
use Rattle.rv_journal.specs.folders.Memory.{memory_names}
use Rattle.rv_journal.specs.Memory.{memory_disk}
use Rattle.rv_journal.proofs.OfFolders.MemoryNames.{is_renamed, names_renamed, not_renamed}
use Rattle.rv_journal.proofs.folders.testing.memory.MemoryFolderFolder.rename.Goals as goal

pub returns-in_err-change-clause-changes : goal.returns-in_err-change-clause-changes
returns-in_err-change-clause-changes c = not_renamed c.args.from c.args.to
    (given_now memory_disk c.args.file.now) c.args.self.now (memory_names c.self.inside.kept)
    (memory_names c.change.new.self) c.self.view_is c.in_err-change.ensures.refused c.change.ensures.stored

pub returns-clause-renamed : goal.returns-clause-renamed
returns-clause-renamed c told name = is_renamed c.args.from c.args.to _ _ (given_now memory_disk
    c.args.file.now)
    c.args.self.now (memory_names c.self.inside.kept) (memory_names c.change.new.self) c.self.view_is
    (c.in_ok-change.ensures.kept, c.change.ensures.stored) c.number.ensures c.moment.ensures name

pub returns-clause-changes : goal.returns-clause-changes
returns-clause-changes c = names_renamed c.args.from c.args.to _ _ (given_now memory_disk c.args.file.now)
    c.args.self.now (memory_names c.self.inside.kept) (memory_names c.change.new.self) c.self.view_is
    (c.in_ok-change.ensures.kept, c.change.ensures.stored) c.number.ensures c.moment.ensures c.self.invariant
