-- The folder's names were kept until the account was opened.
use Rattle.std.proofs.Common.{Err, None, Ok, Result, ap}
use Rattle.rv_journal.specs.declared.device.DeviceFault.TheVariants.{Failed}
use Rattle.rv_store.specs.declared.store.PresentFault.{PresentFault}
use Rattle.rv_store.specs.declared.store.PresentFault.TheVariants as OfStore
use Rattle.rv_store.proofs.KeptNames.{fails_before}
use Rattle.rv_store.proofs.store.open_present.Goals as goal

abbrev told_by : {T : Type 0} → Result T PresentFault → PresentFault
told_by (Err fault) = fault
told_by (Ok value) = OfStore.Folder Failed

pub returns-in-Err-clause-failed : goal.returns-in-Err-clause-failed
returns-in-Err-clause-failed g c = λ epoch fault is. fails_before g.F.Folder.directory g.F.File.Device.disk
    c.args.folder.now c.sync.new.self c.present_epoch.new.folder c.sync.ensures.kept
    c.present_epoch.ensures.kept epoch None fault (c.in-Err.ensures.failed epoch fault
    (ap Err (ap told_by is)))
