-- By the lines of the verdict, and what is told after them.
use Rattle.std.proofs.Common.{inl, refl, subst, sym}
use Rattle.std.proofs.lemmas.Result.{err_from_is_err_and}
use Rattle.rv_run.specs.inspect.Lines.{verdict_lines}
use Rattle.rv_run.specs.inspect.Texts.{IsOneText}
use Rattle.rv_run.proofs.inspect.telling.tell_found.Goals as goal

pub returns-in_err-first-clause-part : goal.returns-in_err-first-clause-part
returns-in_err-first-clause-part g c =
    let exit = err_from_is_err_and c.from_residual.result c.from_residual.ensures.1 in
    rw (exit.1, exit.2) (inl refl)

pub returns-in_err-kept-clause-part : goal.returns-in_err-kept-clause-part
returns-in_err-kept-clause-part g c =
    let lines = verdict_lines c.args.found.now.verdict c.args.rule c.args.found.now.torn in
    let exit = err_from_is_err_and c.from_residual-in_err-kept.result c.from_residual-in_err-kept.ensures.1 in
    rw (exit.1, exit.2) (c.in_err-kept.ensures.part lines
    (subst (IsOneText lines) (sym c.as_str.ensures.value) c.in_ok-first.ensures))

pub returns-clause-all : goal.returns-clause-all
returns-clause-all g c =
    let lines = verdict_lines c.args.found.now.verdict c.args.rule c.args.found.now.torn in
    c.in_ok-kept.ensures.all lines (subst (IsOneText lines) (sym c.as_str.ensures.value)
    c.in_ok-first.ensures)
