use Rattle.std.proofs.Common.{◌≡◌, ◌≤◌, Result, Ok, Err, ℕ, length, refl, sym, ◌∙◌, ap, subst, arith}
use Rattle.std.specs.Prelude.{OnOk}
use Rattle.std.proofs.lemmas.Result.{IfErr-weaker, IfOk-weaker}
use Rattle.rv_journal.specs.Created.{IsLeftLong}
use Rattle.rv_journal.specs.Device.{WhereTold}
use Rattle.rv_journal.specs.Filled.{ahead}
use Rattle.rv_journal.specs.declared.device.DeviceFault.TheVariants.{NoMemory}
use Rattle.rv_journal.proofs.Beginning.{empty_ready, moved, none_zeroed, only_zeroed, then_begun}
use Rattle.rv_journal.proofs.Causes.{create_number, create_why, memory_not_failed}
use Rattle.rv_journal.proofs.Zeros.{zeros_same}
use Rattle.rv_journal.proofs.creating.begin.Goals as goal

short : (size count most : ℕ) → size ≤ count → count ≡ most → size ≤ most
short size count most le is = omega (arith, le, is)

on_ok : {T E : Type 0} (r : Result T E) (P : Type 0) → P → OnOk r P
on_ok (Ok x) P so = so
on_ok (Err e) P so = tt

pub returns-in-Err-clause-any_moment_err : goal.returns-in-Err-clause-any_moment_err
returns-in-Err-clause-any_moment_err g c told =
    only_zeroed g.D.Device.disk c.args.device ahead c.args.device c.args.text.now
    (none_zeroed g.D.Device.disk c.args.device ahead)

pub returns-in-Err-clause-cause : goal.returns-in-Err-clause-cause
returns-in-Err-clause-cause g c is = absurd (memory_not_failed (create_why NoMemory is))

pub put_zeros-requires : goal.put_zeros-requires
put_zeros-requires g c = zeros_same c.deref.result.now c.in-Ok.zeros.items c.deref.ensures.value
    c.in-Ok.ensures.blank

pub store_first-requires-clause-ready : goal.store_first-requires-clause-ready
store_first-requires-clause-ready g c =
    let size = ap length c.deref.ensures.value ∙ c.in-Ok.ensures.size in
    empty_ready g.D.Device.disk c.put_zeros.new.device (length c.deref.result.now) c.new.result
    c.new.ensures.device c.new.ensures.end (c.new.ensures.filled ∙ sym size) c.in-Ok.zeros.items
    c.new.ensures.zeros c.in-Ok.ensures.blank c.in-Ok.ensures.size (omega (arith, size))
    (λ told_now. c.in-Ok-true.ensures.zeroed c.in-Ok-true.field-0-test
    (sym c.put_zeros.ensures.tells ∙ told_now))

pub store_first-requires-clause-empty : goal.store_first-requires-clause-empty
store_first-requires-clause-empty g c = c.new.ensures.end

pub returns-in-Ok-true-clause-ready : goal.returns-in-Ok-true-clause-ready
returns-in-Ok-true-clause-ready g c = c.store_first.ensures.ready

pub returns-in-Ok-true-clause-text : goal.returns-in-Ok-true-clause-text
returns-in-Ok-true-clause-text g c = IfOk-weaker c.store_first.result _ _ (λ file stored told.
    stored (ap g.D.Device.disk.tells c.new.ensures.device ∙ c.put_zeros.ensures.tells ∙ told))
    c.store_first.ensures.stored

pub returns-in-Ok-true-clause-tells : goal.returns-in-Ok-true-clause-tells
returns-in-Ok-true-clause-tells g c = IfOk-weaker c.store_first.result _ _ (λ file same.
    same ∙ ap g.D.Device.disk.tells c.new.ensures.device ∙ c.put_zeros.ensures.tells)
    c.store_first.ensures.tells

pub returns-in-Ok-true-clause-tells_err : goal.returns-in-Ok-true-clause-tells_err
returns-in-Ok-true-clause-tells_err g c = IfErr-weaker c.store_first.result _ _ (λ failed same.
    same ∙ ap g.D.Device.disk.tells c.new.ensures.device ∙ c.put_zeros.ensures.tells)
    c.store_first.ensures.tells_err

pub returns-in-Ok-true-clause-any_moment : goal.returns-in-Ok-true-clause-any_moment
returns-in-Ok-true-clause-any_moment g c = IfOk-weaker c.store_first.result _ _ (λ file only told.
    then_begun g.D.Device.disk c.args.device ahead c.new.result.device file.device c.args.text.now
    (moved g.D.Device.disk c.args.device ahead c.put_zeros.new.device c.new.result.device
    (length c.deref.result.now) c.new.ensures.device (ap length c.deref.ensures.value ∙ c.in-Ok.ensures.size)
    (c.put_zeros.ensures.any_moment told))
    (only (ap g.D.Device.disk.tells c.new.ensures.device ∙ c.put_zeros.ensures.tells ∙ told)))
    c.store_first.ensures.any_moment

pub returns-in-Ok-true-clause-any_moment_err : goal.returns-in-Ok-true-clause-any_moment_err
returns-in-Ok-true-clause-any_moment_err g c = IfErr-weaker c.store_first.result _ _ (λ failed only told.
    then_begun g.D.Device.disk c.args.device ahead c.new.result.device failed.1 c.args.text.now
    (moved g.D.Device.disk c.args.device ahead c.put_zeros.new.device c.new.result.device
    (length c.deref.result.now) c.new.ensures.device (ap length c.deref.ensures.value ∙ c.in-Ok.ensures.size)
    (c.put_zeros.ensures.any_moment told))
    (only (ap g.D.Device.disk.tells c.new.ensures.device ∙ c.put_zeros.ensures.tells ∙ told)))
    c.store_first.ensures.any_moment_err

pub returns-in-Ok-true-clause-text_err : goal.returns-in-Ok-true-clause-text_err
returns-in-Ok-true-clause-text_err g c = c.store_first.ensures.text_err

pub returns-in-Ok-true-clause-long : goal.returns-in-Ok-true-clause-long
returns-in-Ok-true-clause-long g c = IfErr-weaker c.store_first.result _ _ (λ failed none is.
    absurd (none is)) c.store_first.ensures.long

pub returns-in-Ok-true-clause-full : goal.returns-in-Ok-true-clause-full
returns-in-Ok-true-clause-full g c = c.store_first.ensures.full

pub returns-in-Ok-true-clause-cause : goal.returns-in-Ok-true-clause-cause
returns-in-Ok-true-clause-cause g c = c.store_first.ensures.cause

pub returns-in-Ok-false-clause-tells_err : goal.returns-in-Ok-false-clause-tells_err
returns-in-Ok-false-clause-tells_err g c = c.put_zeros.ensures.tells

pub returns-in-Ok-false-clause-any_moment_err : goal.returns-in-Ok-false-clause-any_moment_err
returns-in-Ok-false-clause-any_moment_err g c told =
    only_zeroed g.D.Device.disk c.args.device ahead c.put_zeros.new.device c.args.text.now
    (moved g.D.Device.disk c.args.device ahead c.put_zeros.new.device c.put_zeros.new.device
    (length c.deref.result.now) refl (ap length c.deref.ensures.value ∙ c.in-Ok.ensures.size)
    (c.put_zeros.ensures.any_moment told))

pub returns-in-Ok-false-clause-long : goal.returns-in-Ok-false-clause-long
returns-in-Ok-false-clause-long g c _ =
    subst (λ (n : ℕ). IsLeftLong g.D.Device.disk n c.args.device c.put_zeros.new.device)
    (ap length c.deref.ensures.value ∙ c.in-Ok.ensures.size)
    (c.in-Ok-false.ensures.long c.in-Ok-false.field-0-test)

pub returns-in-Err-put_zeros-clause-tells_err : goal.returns-in-Err-put_zeros-clause-tells_err
returns-in-Err-put_zeros-clause-tells_err g c = c.put_zeros.ensures.tells

pub returns-in-Err-put_zeros-clause-any_moment_err : goal.returns-in-Err-put_zeros-clause-any_moment_err
returns-in-Err-put_zeros-clause-any_moment_err g c told =
    only_zeroed g.D.Device.disk c.args.device ahead c.put_zeros.new.device c.args.text.now
    (moved g.D.Device.disk c.args.device ahead c.put_zeros.new.device c.put_zeros.new.device
    (length c.deref.result.now) refl (ap length c.deref.ensures.value ∙ c.in-Ok.ensures.size)
    (c.put_zeros.ensures.any_moment told))

pub returns-in-Err-put_zeros-clause-cause : goal.returns-in-Err-put_zeros-clause-cause
returns-in-Err-put_zeros-clause-cause g c is = c.in-Err-put_zeros.ensures.cause.failed
    (ap Err (create_why c.in-Err-put_zeros.fault is))

pub returns-in-Ok-true-clause-short : goal.returns-in-Ok-true-clause-short
returns-in-Ok-true-clause-short g c =
    let so : WhereTold g.D.Device.disk c.args.device (length (g.D.Device.disk.seen c.args.device) ≤ ahead) =
    λ told. short _ _ _ (c.in-Ok-true.ensures.short c.in-Ok-true.field-0-test told)
    (ap length c.deref.ensures.value ∙ c.in-Ok.ensures.size) in
    on_ok c.store_first.result _ so

pub returns-in-Err-clause-text_err : goal.returns-in-Err-clause-text_err
returns-in-Err-clause-text_err g c is = absurd (omega (arith, ap create_number is))

pub returns-in-Err-clause-long : goal.returns-in-Err-clause-long
returns-in-Err-clause-long g c is = absurd (omega (arith, ap create_number is))

pub returns-in-Err-clause-full : goal.returns-in-Err-clause-full
returns-in-Err-clause-full g c is = absurd (omega (arith, ap create_number is))

pub returns-in-Ok-false-clause-text_err : goal.returns-in-Ok-false-clause-text_err
returns-in-Ok-false-clause-text_err g c is = absurd (omega (arith, ap create_number is))

pub returns-in-Ok-false-clause-full : goal.returns-in-Ok-false-clause-full
returns-in-Ok-false-clause-full g c is = absurd (omega (arith, ap create_number is))

pub returns-in-Ok-false-clause-cause : goal.returns-in-Ok-false-clause-cause
returns-in-Ok-false-clause-cause g c is = absurd (omega (arith, ap create_number is))

pub returns-in-Err-put_zeros-clause-text_err : goal.returns-in-Err-put_zeros-clause-text_err
returns-in-Err-put_zeros-clause-text_err g c is = absurd (omega (arith, ap create_number is))

pub returns-in-Err-put_zeros-clause-long : goal.returns-in-Err-put_zeros-clause-long
returns-in-Err-put_zeros-clause-long g c is = absurd (omega (arith, ap create_number is))

pub returns-in-Err-put_zeros-clause-full : goal.returns-in-Err-put_zeros-clause-full
returns-in-Err-put_zeros-clause-full g c is = absurd (omega (arith, ap create_number is))
