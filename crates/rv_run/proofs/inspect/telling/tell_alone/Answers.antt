-- The lines went out, or a front of them.
use Rattle.std.proofs.Common.{◌≡◌, ◌∙◌, inl, refl, subst, sym}
use Rattle.std.proofs.lemmas.Result.{err_from_is_err_and}
use Rattle.rv_frame.specs.Sink.{sink_contents}
use Rattle.rv_run.specs.Output.{gathered_bytes, sent_before}
use Rattle.rv_run.specs.inspect.Texts.{IsOneText}
use Rattle.rv_run.proofs.OfInspect.Reported.{none_sent, sends_all, sends_front, sent_more, sent_next}
use Rattle.rv_run.proofs.inspect.telling.tell_alone.Goals as goal

pub returns-in_err-output-clause-part : goal.returns-in_err-output-clause-part
returns-in_err-output-clause-part g c lines piece =
    let exit = err_from_is_err_and c.from_residual.result c.from_residual.ensures.1 in
    rw (exit.1, exit.2) (inl refl)

pub returns-in_err-line-clause-part : goal.returns-in_err-line-clause-part
returns-in_err-line-clause-part g c lines piece =
    let exit = err_from_is_err_and c.from_residual-in_err-line.result c.from_residual-in_err-line.ensures.1 in
    rw (exit.1, exit.2) (sends_front g.W.Write.contents (λ texts. texts ≡ lines) (λ texts. texts ≡ lines)
    c.args.sink.now c.args.sink.now (sent_next (none_sent (sink_contents g.W.Write.contents c.args.sink.now)
    (gathered_bytes c.in_ok-output.output) (sent_before c.in_ok-output.output)
    c.in_ok-output.ensures.gathered c.in_ok-output.ensures.sent) c.as_bytes.result.now) lines
    (subst (IsOneText lines) (sym c.as_bytes.ensures.value) piece) _ _ (inl refl)
    c.in_err-line.ensures.fault c.in_err-line.ensures.told)

pub returns-in_err-flush-clause-part : goal.returns-in_err-flush-clause-part
returns-in_err-flush-clause-part g c lines piece =
    let exit = err_from_is_err_and c.from_residual-in_err-flush.result c.from_residual-in_err-flush.ensures.1
    in
    rw (exit.1, exit.2) (sends_front g.W.Write.contents (λ texts. texts ≡ lines) (λ texts. texts ≡ lines)
    c.args.sink.now c.line.new.sink (sent_more (none_sent (sink_contents g.W.Write.contents c.args.sink.now)
    (gathered_bytes c.in_ok-output.output) (sent_before c.in_ok-output.output)
    c.in_ok-output.ensures.gathered c.in_ok-output.ensures.sent) _ _ c.as_bytes.result.now _
    c.in_ok-line.ensures.ok c.in_ok-line.ensures.count) lines
    (subst (IsOneText lines) (sym c.as_bytes.ensures.value) piece) _ _ (inl refl)
    c.in_err-flush.ensures.fault c.in_err-flush.ensures.told)

pub returns-clause-all : goal.returns-clause-all
returns-clause-all g c lines piece = sends_all g.W.Write.contents (λ texts. texts ≡ lines)
    (λ texts. texts ≡ lines) c.args.sink.now c.line.new.sink (sent_more
    (none_sent (sink_contents g.W.Write.contents c.args.sink.now) (gathered_bytes c.in_ok-output.output)
    (sent_before c.in_ok-output.output) c.in_ok-output.ensures.gathered c.in_ok-output.ensures.sent) _ _
    c.as_bytes.result.now _ c.in_ok-line.ensures.ok c.in_ok-line.ensures.count) lines
    (subst (IsOneText lines) (sym c.as_bytes.ensures.value) piece) _ refl c.in_ok-flush.ensures.ok
    (c.in_ok-flush.ensures.told ∙ c.in_ok-line.ensures.told)
