use Rattle.std.proofs.Common.{sym, ◌∙◌, ap, arith}
use Rattle.std.proofs.lemmas.Bool.{false≢true}
use Rattle.rv_journal.specs.Filled.{ahead}
use Rattle.rv_journal.specs.Text.{before_zero}
use Rattle.rv_journal.proofs.Adding.{text_is}
use Rattle.rv_journal.proofs.Beginning.{none_zeroed, only_zeroed}
use Rattle.rv_journal.proofs.Causes.{create_number}
use Rattle.rv_journal.proofs.journal.DiskJournal.create.Goals as goal

pub returns-then-not-is_text-clause-any_moment_err : goal.returns-then-not-is_text-clause-any_moment_err
returns-then-not-is_text-clause-any_moment_err g c told =
    only_zeroed g.D.Device.disk c.args.device ahead c.args.device c.args.first.now
    (none_zeroed g.D.Device.disk c.args.device ahead)

pub returns-then-not-is_text-clause-not_text : goal.returns-then-not-is_text-clause-not_text
returns-then-not-is_text-clause-not_text g c is all = false≢true (sym c.if-not-is_text.true
    ∙ c.is_text.ensures.1 all)

pub invariant_of-result : goal.invariant_of-result
invariant_of-result g c _ = c.in-Ok.ensures.ready

pub returns-in-Ok-clause-text : goal.returns-in-Ok-clause-text
returns-in-Ok-clause-text g c = c.in-Ok.ensures.text

pub returns-in-Ok-clause-tells : goal.returns-in-Ok-clause-tells
returns-in-Ok-clause-tells g c = c.in-Ok.ensures.tells

pub returns-in-Ok-clause-durable : goal.returns-in-Ok-clause-durable
returns-in-Ok-clause-durable g c told f left =
    let is = c.in-Ok.ensures.ready.filled (c.in-Ok.ensures.tells ∙ told) in
    ap before_zero (is.durable f left) ∙ text_is g.D.Device.disk c.in-Ok.file is

pub returns-in-Ok-clause-any_moment : goal.returns-in-Ok-clause-any_moment
returns-in-Ok-clause-any_moment g c = c.in-Ok.ensures.any_moment

pub returns-in-Err-clause-any_moment_err : goal.returns-in-Err-clause-any_moment_err
returns-in-Err-clause-any_moment_err g c = c.in-Err.ensures.any_moment_err

pub returns-in-Err-clause-tells_err : goal.returns-in-Err-clause-tells_err
returns-in-Err-clause-tells_err g c = c.in-Err.ensures.tells_err

pub returns-in-Err-clause-not_text : goal.returns-in-Err-clause-not_text
returns-in-Err-clause-not_text g c is = absurd (c.in-Err.ensures.text_err is)

pub returns-in-Err-clause-same : goal.returns-in-Err-clause-same
returns-in-Err-clause-same g c is = absurd (c.in-Err.ensures.text_err is)

pub returns-in-Err-clause-long : goal.returns-in-Err-clause-long
returns-in-Err-clause-long g c = c.in-Err.ensures.long

pub returns-in-Err-clause-full : goal.returns-in-Err-clause-full
returns-in-Err-clause-full g c = c.in-Err.ensures.full

pub returns-in-Err-clause-cause : goal.returns-in-Err-clause-cause
returns-in-Err-clause-cause g c = c.in-Err.ensures.cause

pub returns-then-not-is_text-clause-long : goal.returns-then-not-is_text-clause-long
returns-then-not-is_text-clause-long g c is = absurd (omega (arith, ap create_number is))

pub returns-then-not-is_text-clause-full : goal.returns-then-not-is_text-clause-full
returns-then-not-is_text-clause-full g c is = absurd (omega (arith, ap create_number is))

pub returns-then-not-is_text-clause-cause : goal.returns-then-not-is_text-clause-cause
returns-then-not-is_text-clause-cause g c is = absurd (omega (arith, ap create_number is))
