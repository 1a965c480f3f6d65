-- A line is bad where it is read as no entry; else its entry is followed.
use Rattle.std.proofs.Common.{◌≡◌, ◌+◌, Err, ap, refl, sym, ◌∙◌}
use Rattle.std.proofs.lemmas.Result.{err_from_is_err_and}
use Rattle.rv_book.specs.declared.lines.fault.LineFault.TheVariants as line
use Rattle.rv_verify.proofs.Passing.{goes_on}
use Rattle.rv_verify.proofs.verifier.Verifier.follow_line.Goals as goal

pub returns-in_err-entry-clause-bad : goal.returns-in_err-entry-clause-bad
returns-in_err-entry-clause-bad c told =
    let exit = err_from_is_err_and c.from_residual.result c.from_residual.ensures.1 in
    let bad : c.in_err-entry.field-0.0 ≡ line.Bad = sym exit.2 ∙ cc in
    (c.in_err-entry.ensures.bad (ap Err bad), refl, refl)

pub returns-clause-read : goal.returns-clause-read
returns-clause-read c =
    goes_on c.args.self.now (record {
      machine = c.stop_at.new.machine;
      entries = c.args.self.now.entries + 1;
      stop = c.in-Ok.stop;
    })
    c.args.records.now c.stop_at.new.records c.args.line.now c.in_ok-entry.entry c.requires.goes
    c.in_ok-entry.ensures.reads refl c.in-Ok.ensures.stopped c.in-Ok.ensures.noted
