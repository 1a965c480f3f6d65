use Rattle.std.proofs.Common.{◌∙◌, ap, sym}
use Rattle.rv_journal.specs.folders.Folder.{given_now}
use Rattle.rv_journal.specs.declared.folders.folder.FileName.TheVariants.{Unready, Account}
use Rattle.rv_journal.proofs.OfFolders.EpochBegins.{begins_kept, has_text, is_begun, is_named, is_opened}
use Rattle.rv_journal.proofs.OfFolders.EpochBegins.{not_made}
use Rattle.rv_journal.proofs.OfFolders.EpochBegins.{not_named, opened_number}
use Rattle.rv_journal.proofs.folders.beginning.begin_journal.Goals as goal

pub returns-in_err-file-clause-any_moment : goal.returns-in_err-file-clause-any_moment
returns-in_err-file-clause-any_moment g c told =
    (is_opened g.F.Folder.directory g.F.File.Device.disk c.args.first.now c.args.epoch c.args.folder.now
    c.present_epoch.new.folder c.open_file.new.self c.present_epoch.ensures.kept
    c.open_file.ensures.changes).left

pub returns-in-Err-clause-any_moment : goal.returns-in-Err-clause-any_moment
returns-in-Err-clause-any_moment g c told =
    (is_opened g.F.Folder.directory g.F.File.Device.disk c.args.first.now c.args.epoch c.args.folder.now
    c.present_epoch.new.folder c.open_file.new.self c.present_epoch.ensures.kept
    c.open_file.ensures.changes).left

pub rename-requires : goal.rename-requires
rename-requires g c = record {
  named = λ told_now given is.
      let disk = g.F.File.Device.disk in
      let told = sym c.open_file.ensures.changes.1.tells ∙ told_now in
      opened_number (g.F.Folder.directory.seen c.present_epoch.new.folder Unready)
      (given_now disk c.in_ok-file.file) given (sym (c.in_ok-file.ensures.named told Unready) ∙ is)
      (c.in_ok-file.ensures.number told)
      ∙ sym (ap disk.number c.device.ensures
      ∙ (c.in-Ok.ensures.any_moment (c.in_ok-file.ensures.tells ∙ told)).same);
}

pub returns-in_err-rename-clause-any_moment : goal.returns-in_err-rename-clause-any_moment
returns-in_err-rename-clause-any_moment g c told =
    let disk = g.F.File.Device.disk in
    let file_told = c.in_ok-file.ensures.tells ∙ c.present_epoch.ensures.kept.tells ∙ told in
    (is_begun g.F.Folder.directory disk c.args.first.now c.args.epoch c.args.folder.now
    c.present_epoch.new.folder c.open_file.new.self c.rename.new.self c.in-Ok.journal.device
    (given_now disk c.device.result.now) c.present_epoch.ensures.kept c.open_file.ensures.changes
    c.rename.ensures.changes (has_text disk c.args.first.now c.device.result.now c.in-Ok.journal.device
    c.device.ensures (λ left may. c.in-Ok.ensures.durable file_told left may ∙ c.in-Ok.ensures.text
    file_told))).left

pub returns-in_err-sync-clause-any_moment : goal.returns-in_err-sync-clause-any_moment
returns-in_err-sync-clause-any_moment g c told =
    let directory = g.F.Folder.directory in
    let disk = g.F.File.Device.disk in
    let file_told = c.in_ok-file.ensures.tells ∙ c.present_epoch.ensures.kept.tells ∙ told in
    let begun = is_begun directory disk c.args.first.now c.args.epoch c.args.folder.now
    c.present_epoch.new.folder c.open_file.new.self c.rename.new.self c.in-Ok.journal.device
    (given_now disk c.device.result.now) c.present_epoch.ensures.kept c.open_file.ensures.changes
    c.rename.ensures.changes (has_text disk c.args.first.now c.device.result.now c.in-Ok.journal.device
    c.device.ensures (λ left may. c.in-Ok.ensures.durable file_told left may ∙ c.in-Ok.ensures.text
    file_told)) in
    (begins_kept directory disk c.args.first.now c.args.epoch c.args.folder.now c.rename.new.self
    c.sync.new.self begun c.sync.ensures.kept).left

pub returns-clause-any_moment : goal.returns-clause-any_moment
returns-clause-any_moment g c told =
    let directory = g.F.Folder.directory in
    let disk = g.F.File.Device.disk in
    let file_told = c.in_ok-file.ensures.tells ∙ c.present_epoch.ensures.kept.tells ∙ told in
    let begun = is_begun directory disk c.args.first.now c.args.epoch c.args.folder.now
    c.present_epoch.new.folder c.open_file.new.self c.rename.new.self c.in-Ok.journal.device
    (given_now disk c.device.result.now) c.present_epoch.ensures.kept c.open_file.ensures.changes
    c.rename.ensures.changes (has_text disk c.args.first.now c.device.result.now c.in-Ok.journal.device
    c.device.ensures (λ left may. c.in-Ok.ensures.durable file_told left may ∙ c.in-Ok.ensures.text
    file_told)) in
    (begins_kept directory disk c.args.first.now c.args.epoch c.args.folder.now c.rename.new.self
    c.sync.new.self begun c.sync.ensures.kept).left

pub returns-clause-account : goal.returns-clause-account
returns-clause-account g c told names left =
    let directory = g.F.Folder.directory in
    let disk = g.F.File.Device.disk in
    let told_open = c.open_file.ensures.changes.1.tells ∙ c.present_epoch.ensures.kept.tells ∙ told in
    let told_named = c.rename.ensures.changes.tells ∙ told_open in
    let file_told = c.in_ok-file.ensures.tells ∙ c.present_epoch.ensures.kept.tells ∙ told in
    let file = given_now disk c.device.result.now in (
      file,
      c.in_ok-sync.ensures.stored told_named names left (Account c.args.epoch)
          ∙ c.in_ok-rename.ensures.renamed told_open (Account c.args.epoch)
          ∙ is_named c.args.epoch file (directory.seen c.open_file.new.self),
      has_text disk c.args.first.now c.device.result.now c.in-Ok.journal.device c.device.ensures
          (λ left may. c.in-Ok.ensures.durable file_told left may ∙ c.in-Ok.ensures.text file_told),
    )

pub returns-clause-others : goal.returns-clause-others
returns-clause-others g c told names left name is =
    let directory = g.F.Folder.directory in
    let disk = g.F.File.Device.disk in
    let told_first = c.present_epoch.ensures.kept.tells ∙ told in
    let told_open = c.open_file.ensures.changes.1.tells ∙ told_first in
    let told_named = c.rename.ensures.changes.tells ∙ told_open in
    c.in_ok-sync.ensures.stored told_named names left name
    ∙ c.in_ok-rename.ensures.renamed told_open name
    ∙ not_named c.args.epoch (given_now disk c.device.result.now) (directory.seen c.open_file.new.self) name
    is
    ∙ c.in_ok-file.ensures.named told_first name
    ∙ not_made c.args.epoch (given_now disk c.in_ok-file.file) (directory.seen c.present_epoch.new.folder)
    name is
    ∙ c.present_epoch.ensures.kept.seen told name
