-- Each text moves the telling on, and a fault leaves a front of the lines.
use Rattle.std.proofs.Common.{◌∙◌, arith, inr, subst, sym, ℕ, List}
use Rattle.std.proofs.lemmas.Option.{slice_get-get_or}
use Rattle.std.proofs.lemmas.Result.{err_from_is_err_and}
use Rattle.rv_frame.specs.Sink.{sink_contents}
use Rattle.rv_run.specs.Output.{gathered_bytes, sent_before}
use Rattle.rv_run.specs.inspect.Texts.{IsLineText, IsOneText}
use Rattle.rv_run.proofs.OfInspect.Reported.{SoFar, ends_all, ends_some, so_far_begun, so_far_first}
use Rattle.rv_run.proofs.OfInspect.Reported.{so_far_more, so_far_next, stops_end, stops_last, stops_some}
use Rattle.rv_run.proofs.inspect.telling.tell_lines.Goals as goal

pub loop-index-init : goal.loop-index-init
loop-index-init g c = record {
  so_far = subst (λ (b : List ℕ). SoFar c.args.records.now c.args.findings.now b
      (sink_contents g.W.Write.contents c.args.sink.now) (sink_contents g.W.Write.contents c.line.new.sink) 0
      (gathered_bytes c.line.new.self) (sent_before c.line.new.self)) c.as_bytes.ensures.value (so_far_first
      c.args.records.now c.args.findings.now c.as_bytes.result.now _ _
      (gathered_bytes c.in_ok-output.output) _ (sent_before c.in_ok-output.output) _
      c.in_ok-output.ensures.gathered c.in_ok-output.ensures.sent c.in_ok-line.ensures.ok
      c.in_ok-line.ensures.count (omega (arith, c.as_bytes.ensures.len)));
  unfailed = c.in_ok-line.ensures.told;
}

pub loop-index-preserved : goal.loop-index-preserved
loop-index-preserved g c = record {
  so_far = so_far_more c.loop-index.invariant.so_far _ _ c.as_bytes-in-loop-index.result.now _ _
      (slice_get-get_or c.args.findings.now c.loop-index.index _ (omega (arith, c.loop-index-test.true)))
      (subst (IsLineText c.args.records.now c.loop-index.index _) (sym c.as_bytes-in-loop-index.ensures.value)
      c.in-Ok.ensures) c.in_ok-line-2.ensures.ok c.in_ok-line-2.ensures.count
      (omega (arith, c.as_bytes-in-loop-index.ensures.len));
  unfailed = c.in_ok-line-2.ensures.told ∙ c.loop-index.invariant.unfailed;
}

pub returns-in_err-line-clause-part : goal.returns-in_err-line-clause-part
returns-in_err-line-clause-part g c lines counts piece ends =
    let exit = err_from_is_err_and c.from_residual-in_err-line.result c.from_residual-in_err-line.ensures.1 in
    rw (exit.1, exit.2) (stops_some g.W.Write.contents c.args.sink.now c.args.sink.now
    (so_far_begun c.args.records.now c.args.findings.now c.as_bytes.result.now
    (sink_contents g.W.Write.contents c.args.sink.now) (gathered_bytes c.in_ok-output.output)
    (sent_before c.in_ok-output.output) c.in_ok-output.ensures.gathered c.in_ok-output.ensures.sent
    (omega (arith, c.as_bytes.ensures.len))) lines counts
    (subst (IsOneText lines) (sym c.as_bytes.ensures.value) piece) (omega arith) _ _
    c.in_err-line.ensures.fault c.in_err-line.ensures.told)

pub returns-in_err-line-2-clause-part : goal.returns-in_err-line-2-clause-part
returns-in_err-line-2-clause-part g c lines counts piece ends =
    let exit = err_from_is_err_and c.from_residual-in_err-line-2.result
    c.from_residual-in_err-line-2.ensures.1 in
    rw (exit.1, exit.2) (stops_some g.W.Write.contents c.args.sink.now c.loop-index.sink
    (so_far_next c.loop-index.invariant.so_far c.as_bytes-in-loop-index.result.now _
    (slice_get-get_or c.args.findings.now c.loop-index.index _ (omega (arith, c.loop-index-test.true)))
    (subst (IsLineText c.args.records.now c.loop-index.index _) (sym c.as_bytes-in-loop-index.ensures.value)
    c.in-Ok.ensures) (omega (arith, c.as_bytes-in-loop-index.ensures.len))) lines counts piece
    (omega (arith, c.loop-index-test.true, c.requires)) _ _ c.in_err-line-2.ensures.fault
    c.in_err-line-2.ensures.told)

pub returns-in_err-line-3-clause-part : goal.returns-in_err-line-3-clause-part
returns-in_err-line-3-clause-part g c lines counts piece ends =
    let exit = err_from_is_err_and c.from_residual-in_err-line-3.result
    c.from_residual-in_err-line-3.ensures.1 in
    rw (exit.1, exit.2) (stops_last g.W.Write.contents c.args.sink.now c.loop-index.sink
    c.loop-index.invariant.so_far lines counts piece c.as_bytes-2.result.now
    (subst (IsOneText counts) (sym c.as_bytes-2.ensures.value) ends)
    (omega (arith, c.loop-index-test.false, c.loop-index.auto.index-end, c.requires)) _ _
    c.in_err-line-3.ensures.fault c.in_err-line-3.ensures.told)

pub returns-in_err-flush-clause-part : goal.returns-in_err-flush-clause-part
returns-in_err-flush-clause-part g c lines counts piece ends =
    let exit = err_from_is_err_and c.from_residual-in_err-flush.result c.from_residual-in_err-flush.ensures.1
    in
    rw (exit.1, exit.2) (stops_some g.W.Write.contents c.args.sink.now c.loop-index.sink
    c.loop-index.invariant.so_far lines counts piece (omega (arith, c.loop-index-test.true, c.requires)) _ _
    c.in_err-flush.ensures.fault c.in_err-flush.ensures.told)

pub returns-in_err-flush-2-clause-part : goal.returns-in_err-flush-2-clause-part
returns-in_err-flush-2-clause-part g c lines counts piece ends =
    let exit = err_from_is_err_and c.from_residual-in_err-flush-2.result
    c.from_residual-in_err-flush-2.ensures.1 in
    rw (exit.1, exit.2) (stops_end g.W.Write.contents c.args.sink.now c.loop-index.sink
    c.loop-index.invariant.so_far lines counts piece c.as_bytes-2.result.now
    (subst (IsOneText counts) (sym c.as_bytes-2.ensures.value) ends)
    (omega (arith, c.loop-index-test.false, c.loop-index.auto.index-end, c.requires)) c.line-2.new.sink _ _
    c.in_ok-line-3.ensures.ok c.in_ok-line-3.ensures.count _ _ c.in_err-flush-2.ensures.fault
    c.in_err-flush-2.ensures.told)

pub returns-in_default-clause-part : goal.returns-in_default-clause-part
returns-in_default-clause-part g c lines counts piece ends =
    inr (ends_some g.W.Write.contents c.args.sink.now c.loop-index.sink c.loop-index.invariant.so_far lines
    counts piece (omega (arith, c.loop-index-test.true, c.requires)) _ c.in_ok-flush.ensures.ok
    (c.in_ok-flush.ensures.told ∙ c.loop-index.invariant.unfailed))

pub returns-clause-all : goal.returns-clause-all
returns-clause-all g c lines counts piece ends =
    ends_all g.W.Write.contents c.args.sink.now c.loop-index.sink c.loop-index.invariant.so_far lines counts
    piece c.as_bytes-2.result.now (subst (IsOneText counts) (sym c.as_bytes-2.ensures.value) ends)
    (omega (arith, c.loop-index-test.false, c.loop-index.auto.index-end, c.requires)) c.line-2.new.sink _ _
    c.in_ok-line-3.ensures.ok c.in_ok-line-3.ensures.count _ c.in_ok-flush-2.ensures.ok
    (c.in_ok-flush-2.ensures.told ∙ c.in_ok-line-3.ensures.told ∙ c.loop-index.invariant.unfailed)
