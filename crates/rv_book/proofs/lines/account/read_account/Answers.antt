-- The first bad line is the head, or the one where the entries stop.
use Rattle.std.proofs.Common.{◌≡◌, Err, ap, refl, sym, ◌∙◌}
use Rattle.std.proofs.lemmas.Result.{err_from_is_err_and}
use Rattle.rv_book.specs.declared.lines.fault.AccountFault.TheVariants.{BadLine}
use Rattle.rv_book.specs.lines.Lines.{lines}
use Rattle.rv_book.specs.lines.Reading.{account_limits}
use Rattle.rv_book.proofs.OfLines.Turns.{bad_head, bad_line}
use Rattle.rv_book.proofs.lines.account.read_account.Goals as goal

pub returns-in_default-read_head-clause-bad : goal.returns-in_default-read_head-clause-bad
returns-in_default-read_head-clause-bad c n told =
    let h = c.in-Some in
    bad_head account_limits (lines c.args.input.now) (lines c.in-Some.rest.now) c.in-Some.head.now n
    c.in-Some.ensures.some
    (c.in_default-read_head.ensures.none refl) (cc)

pub returns-in_err-entries-clause-bad : goal.returns-in_err-entries-clause-bad
returns-in_err-entries-clause-bad c n told =
    let exit = err_from_is_err_and c.from_residual.result c.from_residual.ensures.1 in
    let is : c.in_err-entries.field-0.0 ≡ BadLine n = sym exit.2 ∙ cc in
    bad_line (c.in_err-entries.ensures.bad n (ap Err is)) (lines c.args.input.now) c.in-Some.head.now
    c.in-Some-read_head.epoch c.in-Some-read_head.opened c.in-Some.ensures.some
    c.in-Some-read_head.ensures.some
