-- A line is bad where it is read as no entry.
use Rattle.std.proofs.Common.{◌≡◌, Err, ap, refl, sym, ◌∙◌}
use Rattle.std.proofs.lemmas.Result.{err_from_is_err_and}
use Rattle.rv_book.specs.declared.lines.fault.LineFault.TheVariants as line
use Rattle.rv_verify.proofs.verifier.Verifier.pass_over.Goals as goal

pub returns-in_err-_entry-clause-bad : goal.returns-in_err-_entry-clause-bad
returns-in_err-_entry-clause-bad c told =
    let exit = err_from_is_err_and c.from_residual.result c.from_residual.ensures.1 in
    let bad : c.in_err-_entry.field-0.0 ≡ line.Bad = sym exit.2 ∙ cc in
    (c.in_err-_entry.ensures.bad (ap Err bad), refl)
