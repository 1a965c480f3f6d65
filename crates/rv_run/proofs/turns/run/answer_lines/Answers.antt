-- Each line that is answered moves the run on, and a fault leaves the front of what it prints.
use Rattle.std.proofs.Common.{length, arith, ap, refl, sym, subst, ◌∙◌}
use Rattle.rv_book.specs.lines.Lines.{lines}
use Rattle.std.proofs.lemmas.Result.{err_from_is_err_and}
use Rattle.rv_run.specs.turns.Run.{AnswersLine}
use Rattle.rv_run.proofs.OfTurns.Ends.{kept_is}
use Rattle.rv_run.proofs.OfTurns.Progress.{progress_start, progress_kept, progress_more, sends_all_on_ok}
use Rattle.rv_run.proofs.OfTurns.Progress.{sends_front}
use Rattle.rv_run.proofs.OfTurns.Progress.{sends_front_if_err}
use Rattle.rv_run.proofs.turns.run.answer_lines.Goals as goal

pub loop-line-init : goal.loop-line-init
loop-line-init g c = record {
  progress = progress_start _ _ _ _ _ c.requires.nothing_gathered
      c.requires.nothing_sent;
  unfailed = refl;
}

pub loop-line-preserved-in_ok-line : goal.loop-line-preserved-in_ok-line
loop-line-preserved-in_ok-line g c =
    let answers = subst (AnswersLine c.in-Some.line.now c.loop-line.book c.answer_line-body.new.book)
    (sym c.as_bytes.ensures.text) c.answer_line-body.ensures.answers in
    let first = ap lines (sym c.rest.ensures) ∙ c.in-Some.ensures.some in
    let more = progress_more c.loop-line.invariant.progress _ _ _ _ _ c.as_bytes.result.now _ first answers
    c.in_ok-line.ensures.ok c.in_ok-line.ensures.count c.as_bytes.ensures.of_body
    (omega (arith, ap length c.rest.ensures, c.in-Some.ensures.shorter)) in
    let kept = kept_is _ _ _ _ _ c.rest.ensures refl c.in-Some.ensures.cut in
    record {
      progress = progress_kept more _ (c.keep_last.ensures ∙ kept);
      unfailed = c.in_ok-line.ensures.told ∙ c.loop-line.invariant.unfailed;
    }

pub loop-line-preserved : goal.loop-line-preserved
loop-line-preserved g c =
    let answers = subst (AnswersLine c.in-Some.line.now c.loop-line.book c.answer_line-body.new.book)
    (sym c.as_bytes.ensures.text) c.answer_line-body.ensures.answers in
    let first = ap lines (sym c.rest.ensures) ∙ c.in-Some.ensures.some in
    let more = progress_more c.loop-line.invariant.progress _ _ _ _ _ c.as_bytes.result.now _ first answers
    c.in_ok-line.ensures.ok c.in_ok-line.ensures.count c.as_bytes.ensures.of_body
    (omega (arith, ap length c.rest.ensures, c.in-Some.ensures.shorter)) in
    let kept = kept_is _ _ _ _ _ c.rest.ensures refl c.in-Some.ensures.cut in
    record {
      progress = progress_kept more _ (c.keep_last.ensures ∙ kept);
      unfailed = c.in_ok-line.ensures.told ∙ c.loop-line.invariant.unfailed;
    }

pub returns-in_err-line-clause-part : goal.returns-in_err-line-clause-part
returns-in_err-line-clause-part g c =
    let exit = err_from_is_err_and c.from_residual.result c.from_residual.ensures.1 in
    rw (exit.1, exit.2) (sends_front g.W.Write.contents c.args.sink.now c.loop-line.sink c.loop-line.output
    c.loop-line.invariant.progress _ _ (c.in_err-line.ensures.cut_before
    (omega (arith, c.as_bytes.ensures.of_body.1))))

pub returns-clause-part : goal.returns-clause-part
returns-clause-part g c = sends_front_if_err g.W.Write.contents c.args.sink.now c.loop-line.sink
    c.loop-line.output c.loop-line.invariant.progress _ c.flush.result c.flush.ensures.fault

pub returns-clause-all : goal.returns-clause-all
returns-clause-all g c = sends_all_on_ok g.W.Write.contents c.args.sink.now c.loop-line.sink
    c.loop-line.output c.loop-line.invariant.progress _ c.flush.result
    (sym c.rest.ensures ∙ c.in_default.ensures.none refl)
    c.flush.ensures.ok
