use Rattle.std.proofs.Common.{◌≡◌, ◌++◌, [], Err, List, ℕ, take, sym, ◌∙◌, ap, subst, arith}
use Rattle.rv_journal.specs.Device.{Disk, LeavesOnly}
use Rattle.rv_journal.specs.Filled.{file_text}
use Rattle.rv_journal.specs.Text.{HasFront}
use Rattle.rv_journal.specs.declared.filled.FilledFile.{FilledFile}
use Rattle.rv_journal.specs.declared.filled.StoreFault.TheVariants as OfStore
use Rattle.rv_journal.proofs.Causes.{create_number, create_why}
use Rattle.rv_journal.proofs.creating.store_first.Goals as goal

no_text : {D : Type 0} (disk : Disk D) (file : FilledFile D) → file.end ≡ 0 → file_text disk file ≡ []
no_text disk file is = ap (λ (n : ℕ). take n (disk.seen file.device)) is

pub returns-in-Ok-clause-stored : goal.returns-in-Ok-clause-stored
returns-in-Ok-clause-stored g c told = c.in-Ok.ensures.stored told ∙ ap (λ (l : List ℕ). l ++ c.args.text.now)
    (no_text g.D.Device.disk c.args.file c.requires.empty)

pub returns-in-Ok-clause-tells : goal.returns-in-Ok-clause-tells
returns-in-Ok-clause-tells g c = c.store.ensures.adds.tells

pub returns-in-Ok-clause-any_moment : goal.returns-in-Ok-clause-any_moment
returns-in-Ok-clause-any_moment g c told =
    subst (λ (l : List ℕ). LeavesOnly g.D.Device.disk c.args.file.device c.store.new.self.device
    (HasFront l c.args.text.now)) (no_text g.D.Device.disk c.args.file c.requires.empty)
    (c.store.ensures.adds.any_moment told)

pub returns-in-Err-Full-clause-tells_err : goal.returns-in-Err-Full-clause-tells_err
returns-in-Err-Full-clause-tells_err g c =
    ap g.D.Device.disk.tells c.into_device.ensures ∙ c.store.ensures.adds.tells

pub returns-in-Err-Full-clause-any_moment_err : goal.returns-in-Err-Full-clause-any_moment_err
returns-in-Err-Full-clause-any_moment_err g c told =
    subst (λ d. LeavesOnly g.D.Device.disk c.args.file.device d (HasFront [] c.args.text.now))
    (sym c.into_device.ensures)
    (subst (λ (l : List ℕ). LeavesOnly g.D.Device.disk c.args.file.device c.store.new.self.device
    (HasFront l c.args.text.now)) (no_text g.D.Device.disk c.args.file c.requires.empty)
    (c.store.ensures.adds.any_moment told))

pub returns-in-Err-Full-clause-full : goal.returns-in-Err-Full-clause-full
returns-in-Err-Full-clause-full g c _ =
    omega (arith, c.in-Err-Full.ensures.full (ap Err c.in-Err-Full.field-0-is), c.requires.empty)

pub returns-in-Err-Device-clause-tells_err : goal.returns-in-Err-Device-clause-tells_err
returns-in-Err-Device-clause-tells_err g c =
    ap g.D.Device.disk.tells c.into_device-in-Err-Device.ensures ∙ c.store.ensures.adds.tells

pub returns-in-Err-Device-clause-any_moment_err : goal.returns-in-Err-Device-clause-any_moment_err
returns-in-Err-Device-clause-any_moment_err g c told =
    subst (λ d. LeavesOnly g.D.Device.disk c.args.file.device d (HasFront [] c.args.text.now))
    (sym c.into_device-in-Err-Device.ensures)
    (subst (λ (l : List ℕ). LeavesOnly g.D.Device.disk c.args.file.device c.store.new.self.device
    (HasFront l c.args.text.now)) (no_text g.D.Device.disk c.args.file c.requires.empty)
    (c.store.ensures.adds.any_moment told))

pub returns-in-Err-Device-clause-cause : goal.returns-in-Err-Device-clause-cause
returns-in-Err-Device-clause-cause g c is =
    ap g.D.Device.disk.failed c.into_device-in-Err-Device.ensures
    ∙ c.in-Err-Device.ensures.cause (ap Err (c.in-Err-Device.field-0-is
    ∙ ap OfStore.Device (create_why c.in-Err-Device.fault is)))

pub returns-in-Err-Full-clause-text_err : goal.returns-in-Err-Full-clause-text_err
returns-in-Err-Full-clause-text_err g c is = absurd (omega (arith, ap create_number is))

pub returns-in-Err-Full-clause-long : goal.returns-in-Err-Full-clause-long
returns-in-Err-Full-clause-long g c is = absurd (omega (arith, ap create_number is))

pub returns-in-Err-Full-clause-cause : goal.returns-in-Err-Full-clause-cause
returns-in-Err-Full-clause-cause g c is = absurd (omega (arith, ap create_number is))

pub returns-in-Err-Device-clause-text_err : goal.returns-in-Err-Device-clause-text_err
returns-in-Err-Device-clause-text_err g c is = absurd (omega (arith, ap create_number is))

pub returns-in-Err-Device-clause-long : goal.returns-in-Err-Device-clause-long
returns-in-Err-Device-clause-long g c is = absurd (omega (arith, ap create_number is))

pub returns-in-Err-Device-clause-full : goal.returns-in-Err-Device-clause-full
returns-in-Err-Device-clause-full g c is = absurd (omega (arith, ap create_number is))
