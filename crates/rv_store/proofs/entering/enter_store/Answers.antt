-- No epoch is left where none was chosen.
use Rattle.std.proofs.Common.{◌≡◌, ℕ, Option, subst}
use Rattle.rv_journal.specs.folders.Folder.{WhereNamed}
use Rattle.rv_journal.specs.folders.Present.{IsPresent}
use Rattle.rv_store.specs.Epochs.{HasNoChoice}
use Rattle.rv_store.proofs.entering.enter_store.Goals as goal

pub returns-in_default-clause-no_epoch : goal.returns-in_default-clause-no_epoch
returns-in_default-clause-no_epoch g c = λ present is.
    let same : c.in_ok-present.present ≡ present = (cc) in
    subst (λ (p : Option ℕ). HasNoChoice c.args.wish p × WhereNamed g.F.Folder.directory c.args.folder.now
    (IsPresent (g.F.Folder.directory.seen c.args.folder.now) p)) same
    (c.choose.ensures.none c.in_default.is, c.in_ok-present.ensures.present)
