use Rattle.rv_journal.specs.folders.Folder.{given_now, renamed}
use Rattle.rv_journal.specs.System.{system_disk}
use Rattle.rv_journal.proofs.OfFolders.SystemNames.{system_changes}
use Rattle.rv_journal.proofs.folders.system.SystemFolderFolder.rename.Goals as goal

pub returns-in_err-old-clause-changes : goal.returns-in_err-old-clause-changes
returns-in_err-old-clause-changes c = system_changes (renamed c.args.from c.args.to
    (given_now system_disk c.args._file.now)) c.args.self.now c.args.self.now

pub returns-in_err-new-clause-changes : goal.returns-in_err-new-clause-changes
returns-in_err-new-clause-changes c = system_changes (renamed c.args.from c.args.to
    (given_now system_disk c.args._file.now)) c.args.self.now c.args.self.now

pub returns-clause-changes : goal.returns-clause-changes
returns-clause-changes c = system_changes (renamed c.args.from c.args.to
    (given_now system_disk c.args._file.now)) c.args.self.now c.kept.new.self
