use Rattle.std.proofs.Common.{ℕ, Err, inl, length, sym, ◌∙◌, ap, subst, arith}
use Rattle.rv_journal.specs.Device.{LeavesOnly}
use Rattle.rv_journal.specs.Opened.{HasLinesOf, file_lines}
use Rattle.rv_journal.specs.Text.{before_zero}
use Rattle.rv_journal.specs.declared.device.DeviceFault.TheVariants.{NoMemory}
use Rattle.rv_journal.proofs.Causes.{memory_not_failed, open_number, open_why}
use Rattle.rv_journal.proofs.Moments.{started}
use Rattle.rv_journal.proofs.Cleared.{is_whole, is_ready, text_lines}
use Rattle.rv_journal.proofs.Adding.{text_is}
use Rattle.rv_journal.proofs.Zeros.{zeros_same}
use Rattle.rv_journal.proofs.journal.DiskJournal.open.Goals as goal

pub returns-in-Err-clause-any_moment_err : goal.returns-in-Err-clause-any_moment_err
returns-in-Err-clause-any_moment_err g c told = started g.D.Device.disk c.args.device
    (HasLinesOf g.D.Device.disk c.args.device) (λ f left. inl left)

pub returns-in-Err-clause-not_filled : goal.returns-in-Err-clause-not_filled
returns-in-Err-clause-not_filled g c is = absurd (omega (arith, ap (open_number {T = ℕ}) (ap Err is)))

pub returns-in-Err-clause-refused : goal.returns-in-Err-clause-refused
returns-in-Err-clause-refused g c = tt

pub returns-in-Err-clause-cause : goal.returns-in-Err-clause-cause
returns-in-Err-clause-cause g c is = absurd (memory_not_failed (open_why NoMemory is))

pub reopen-requires-clause-zeros : goal.reopen-requires-clause-zeros
reopen-requires-clause-zeros g c = zeros_same c.deref.result.now c.in-Ok.zeros.items c.deref.ensures.value
    c.in-Ok.ensures.blank

pub reopen-requires-clause-some : goal.reopen-requires-clause-some
reopen-requires-clause-some g c = omega (arith, ap length c.deref.ensures.value, c.in-Ok.ensures.size)

pub invariant_of-result : goal.invariant_of-result
invariant_of-result g c _ =
    let made = c.new-file.ensures in
    let told = c.reopen.ensures.tells in
    is_ready g.D.Device.disk c.reopen.new.device (file_lines g.D.Device.disk c.args.device)
    c.in-Ok-reopen.ends.file c.new-file.result made.device made.filled
    (omega (arith, made.end, c.in-Ok-reopen.ensures.room)) c.in-Ok.zeros.items made.zeros
    c.in-Ok.ensures.blank c.in-Ok.ensures.size
    (λ told_now. made.end ∙ c.in-Ok-reopen.ensures.end (sym told ∙ told_now))
    (λ told_now. c.in-Ok-reopen.ensures.cleared (sym told ∙ told_now))

pub returns-in-Ok-reopen-clause-lines : goal.returns-in-Ok-reopen-clause-lines
returns-in-Ok-reopen-clause-lines g c = c.in-Ok-reopen.ensures.made

pub returns-in-Ok-reopen-clause-text : goal.returns-in-Ok-reopen-clause-text
returns-in-Ok-reopen-clause-text g c told =
    let made = c.new-file.ensures in
    text_lines g.D.Device.disk c.reopen.new.device (file_lines g.D.Device.disk c.args.device)
    c.in-Ok-reopen.ends.file c.new-file.result made.device made.filled
    (made.end ∙ c.in-Ok-reopen.ensures.end told) (c.in-Ok-reopen.ensures.cleared told)

pub returns-in-Ok-reopen-clause-durable : goal.returns-in-Ok-reopen-clause-durable
returns-in-Ok-reopen-clause-durable g c told f left =
    let made = c.new-file.ensures in
    let is = is_whole g.D.Device.disk c.reopen.new.device (file_lines g.D.Device.disk c.args.device)
    c.in-Ok-reopen.ends.file c.new-file.result made.device made.filled
    (made.end ∙ c.in-Ok-reopen.ensures.end told) (c.in-Ok-reopen.ensures.cleared told) in
    ap before_zero (is.durable f left) ∙ text_is g.D.Device.disk c.new-file.result is

pub returns-in-Ok-reopen-clause-any_moment : goal.returns-in-Ok-reopen-clause-any_moment
returns-in-Ok-reopen-clause-any_moment g c told =
    subst (λ d. LeavesOnly g.D.Device.disk c.args.device d (HasLinesOf g.D.Device.disk c.args.device))
    (sym c.new-file.ensures.device) (c.reopen.ensures.any_moment told)

pub returns-in-Ok-reopen-clause-tells : goal.returns-in-Ok-reopen-clause-tells
returns-in-Ok-reopen-clause-tells g c =
    ap g.D.Device.disk.tells c.new-file.ensures.device ∙ c.reopen.ensures.tells

pub returns-in-Err-reopen-clause-tells_err : goal.returns-in-Err-reopen-clause-tells_err
returns-in-Err-reopen-clause-tells_err g c = c.reopen.ensures.tells

pub returns-in-Err-reopen-clause-any_moment_err : goal.returns-in-Err-reopen-clause-any_moment_err
returns-in-Err-reopen-clause-any_moment_err g c = c.reopen.ensures.any_moment

pub returns-in-Err-reopen-clause-not_filled : goal.returns-in-Err-reopen-clause-not_filled
returns-in-Err-reopen-clause-not_filled g c is = c.in-Err-reopen.ensures.not_filled (ap Err is)

pub returns-in-Err-reopen-clause-refused : goal.returns-in-Err-reopen-clause-refused
returns-in-Err-reopen-clause-refused g c = c.in-Err-reopen.ensures.refused

pub returns-in-Err-reopen-clause-cause : goal.returns-in-Err-reopen-clause-cause
returns-in-Err-reopen-clause-cause g c is = c.in-Err-reopen.ensures.cause (ap Err is)
