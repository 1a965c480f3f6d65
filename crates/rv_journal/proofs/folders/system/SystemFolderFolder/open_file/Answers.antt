use Rattle.rv_journal.specs.folders.Folder.{GivenFile, name_made}
use Rattle.rv_journal.proofs.OfFolders.SystemNames.{system_changes}
use Rattle.rv_journal.proofs.folders.system.SystemFolderFolder.open_file.Goals as goal

any : GivenFile
any = record { number = 0; since = 0 }

pub returns-in_err-path-clause-changes : goal.returns-in_err-path-clause-changes
returns-in_err-path-clause-changes c = (
  any,
  system_changes (name_made c.args.name any) c.args.self.now
      c.args.self.now,
)

pub returns-clause-changes : goal.returns-clause-changes
returns-clause-changes c = (any, system_changes (name_made c.args.name any) c.args.self.now c.kept.new.self)
