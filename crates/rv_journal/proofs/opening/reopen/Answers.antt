use Rattle.std.proofs.Common.{◌≡◌, inl, inr, Err, Bool, true, false, not, List, ℕ, ◌∙◌, ap, arith, subst}
use Rattle.std.proofs.lemmas.Bool.{false≢true}
use Rattle.std.proofs.lemmas.Result.{err_from_is_err_and}
use Rattle.rv_journal.specs.Opened.{IsCleared}
use Rattle.rv_journal.specs.Text.{stored_lines}
use Rattle.rv_journal.proofs.Causes.{if_refused, open_number, opened_as, reopen_why}
use Rattle.rv_journal.proofs.Looking.{only_looked, then_cleared}
use Rattle.rv_journal.proofs.opening.reopen.Goals as goal

pub returns-in_err-ends-clause-any_moment : goal.returns-in_err-ends-clause-any_moment
returns-in_err-ends-clause-any_moment g c told = only_looked g.D.Device.disk c.args.device.now
    c.read_lines.new.device c.read_lines.ensures.reads.looks

pub returns-in_err-ends-clause-refused : goal.returns-in_err-ends-clause-refused
returns-in_err-ends-clause-refused g c =
    let exit = err_from_is_err_and c.from_residual.result c.from_residual.ensures.1 in
    rw (exit.1, exit.2) (if_refused c.in_err-ends.field-0.0 _ _
    (λ why refused. record { looks = c.read_lines.ensures.reads.looks; lines = λ told. inl (refused told) })
    c.in_err-ends.ensures.reads.refused)

pub returns-then-not-ends-clause-any_moment : goal.returns-then-not-ends-clause-any_moment
returns-then-not-ends-clause-any_moment g c told = only_looked g.D.Device.disk c.args.device.now
    c.read_lines.new.device c.read_lines.ensures.reads.looks

not_both : (b : Bool) → not b ≡ true → b ≡ true → ⊥
not_both true is_not _ = false≢true is_not
not_both false _ is = false≢true is

pub returns-then-not-ends-clause-not_filled : goal.returns-then-not-ends-clause-not_filled
returns-then-not-ends-clause-not_filled g c _ = record {
  looks = c.read_lines.ensures.reads.looks;
  no_zero = λ told has. not_both c.in_ok-ends.ends.has_zero c.if-not-ends.true
      ((c.in_ok-ends.ensures.reads.has_zero told).1 has);
}

pub returns-in_err-clear_after-clause-any_moment : goal.returns-in_err-clear_after-clause-any_moment
returns-in_err-clear_after-clause-any_moment g c told =
    let looks = c.read_lines.ensures.reads.looks in
    then_cleared g.D.Device.disk c.args.device.now c.read_lines.new.device c.clear_after.new.device looks
    (looks.seen told) (c.clear_after.ensures.kept.any_moment (looks.tells ∙ told))

pub returns-clause-any_moment : goal.returns-clause-any_moment
returns-clause-any_moment g c told =
    let looks = c.read_lines.ensures.reads.looks in
    then_cleared g.D.Device.disk c.args.device.now c.read_lines.new.device c.clear_after.new.device looks
    (looks.seen told) (c.clear_after.ensures.kept.any_moment (looks.tells ∙ told))

pub returns-clause-cleared : goal.returns-clause-cleared
returns-clause-cleared g c told =
    let looks = c.read_lines.ensures.reads.looks in
    subst (λ (l : List ℕ). IsCleared g.D.Device.disk (stored_lines l) c.in_ok-ends.ends.file
    c.clear_after.new.device)
    (looks.seen told) (c.in_ok-clear_after.ensures.cleared (looks.tells ∙ told))

pub returns-then-not-ends-clause-cause : goal.returns-then-not-ends-clause-cause
returns-then-not-ends-clause-cause g c is = absurd (omega (arith, ap open_number is))

pub returns-in_err-clear_after-clause-not_filled : goal.returns-in_err-clear_after-clause-not_filled
returns-in_err-clear_after-clause-not_filled g c =
    let exit = err_from_is_err_and c.from_residual-in_err-clear_after.result
    c.from_residual-in_err-clear_after.ensures.1 in
    rw (exit.1, exit.2) (λ is. absurd (omega (arith, ap open_number is)))

pub returns-in_err-ends-clause-tells : goal.returns-in_err-ends-clause-tells
returns-in_err-ends-clause-tells g c = c.read_lines.ensures.reads.looks.tells

pub returns-in_err-ends-clause-lines : goal.returns-in_err-ends-clause-lines
returns-in_err-ends-clause-lines g c told = ap stored_lines (c.read_lines.ensures.reads.looks.seen told)

pub returns-in_err-ends-clause-not_filled : goal.returns-in_err-ends-clause-not_filled
returns-in_err-ends-clause-not_filled g c =
    let exit = err_from_is_err_and c.from_residual.result c.from_residual.ensures.1 in
    rw (exit.1, exit.2) (λ is. absurd (c.in_err-ends.ensures.reads.filled (ap Err (ap opened_as is))))

pub returns-in_err-ends-clause-cause : goal.returns-in_err-ends-clause-cause
returns-in_err-ends-clause-cause g c =
    let exit = err_from_is_err_and c.from_residual.result c.from_residual.ensures.1 in
    rw (exit.1, exit.2) (λ is. c.in_err-ends.ensures.reads.cause (ap Err (ap opened_as is)))

pub returns-then-not-ends-clause-tells : goal.returns-then-not-ends-clause-tells
returns-then-not-ends-clause-tells g c = c.read_lines.ensures.reads.looks.tells

pub returns-then-not-ends-clause-lines : goal.returns-then-not-ends-clause-lines
returns-then-not-ends-clause-lines g c told = ap stored_lines (c.read_lines.ensures.reads.looks.seen told)

pub returns-in_err-clear_after-clause-tells : goal.returns-in_err-clear_after-clause-tells
returns-in_err-clear_after-clause-tells g c = c.clear_after.ensures.kept.tells
    ∙ c.read_lines.ensures.reads.looks.tells

pub returns-in_err-clear_after-clause-lines : goal.returns-in_err-clear_after-clause-lines
returns-in_err-clear_after-clause-lines g c told =
    let looks = c.read_lines.ensures.reads.looks in
    c.clear_after.ensures.kept.lines (looks.tells ∙ told) ∙ ap stored_lines (looks.seen told)

pub returns-in_err-clear_after-clause-refused : goal.returns-in_err-clear_after-clause-refused
returns-in_err-clear_after-clause-refused g c =
    let exit = err_from_is_err_and c.from_residual-in_err-clear_after.result
    c.from_residual-in_err-clear_after.ensures.1 in
    rw (exit.1, exit.2) (tt)

pub returns-in_err-clear_after-clause-cause : goal.returns-in_err-clear_after-clause-cause
returns-in_err-clear_after-clause-cause g c =
    let exit = err_from_is_err_and c.from_residual-in_err-clear_after.result
    c.from_residual-in_err-clear_after.ensures.1 in
    rw (exit.1, exit.2) (λ is. c.in_err-clear_after.ensures.cause.failed (ap Err (reopen_why _ is)))

pub returns-clause-tells : goal.returns-clause-tells
returns-clause-tells g c = c.clear_after.ensures.kept.tells ∙ c.read_lines.ensures.reads.looks.tells

pub returns-clause-lines : goal.returns-clause-lines
returns-clause-lines g c told =
    let looks = c.read_lines.ensures.reads.looks in
    c.clear_after.ensures.kept.lines (looks.tells ∙ told) ∙ ap stored_lines (looks.seen told)

pub returns-clause-made : goal.returns-clause-made
returns-clause-made g c told = record {
  last = c.read_lines.new.reader;
  taken = c.in_ok-ends.ensures.reads.taken told;
  made = c.in-Ok.ensures.made;
}

pub returns-clause-maker : goal.returns-clause-maker
returns-clause-maker g c = (c.read_lines.new.reader, c.in-Ok.ensures.made)

pub returns-in-Err-clause-refused : goal.returns-in-Err-clause-refused
returns-in-Err-clause-refused g c = record {
  looks = c.read_lines.ensures.reads.looks;
  lines = λ told. inr (record {
    last = c.read_lines.new.reader;
    taken = c.in_ok-ends.ensures.reads.taken told;
    lacking = c.in-Err.ensures.lacking;
  });
}

pub returns-in-Err-clause-any_moment : goal.returns-in-Err-clause-any_moment
returns-in-Err-clause-any_moment g c told = only_looked g.D.Device.disk c.args.device.now
    c.read_lines.new.device c.read_lines.ensures.reads.looks

pub returns-in-Err-clause-tells : goal.returns-in-Err-clause-tells
returns-in-Err-clause-tells g c = c.read_lines.ensures.reads.looks.tells

pub returns-in-Err-clause-lines : goal.returns-in-Err-clause-lines
returns-in-Err-clause-lines g c told = ap stored_lines (c.read_lines.ensures.reads.looks.seen told)

pub returns-in-Err-clause-not_filled : goal.returns-in-Err-clause-not_filled
returns-in-Err-clause-not_filled g c is = absurd (omega (arith, ap open_number is))

pub returns-in-Err-clause-cause : goal.returns-in-Err-clause-cause
returns-in-Err-clause-cause g c is = absurd (omega (arith, ap open_number is))

pub returns-clause-end : goal.returns-clause-end
returns-clause-end g c = c.in_ok-ends.ensures.reads.lines

pub returns-clause-not_filled : goal.returns-clause-not_filled
returns-clause-not_filled g c is = absurd (omega (arith, ap open_number is))

pub returns-clause-cause : goal.returns-clause-cause
returns-clause-cause g c is = absurd (omega (arith, ap open_number is))
