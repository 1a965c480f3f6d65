-- Whether all lines are kept, by the findings, and what went out.
use Rattle.std.proofs.Common.{◌↔◌, ◌∙◌, IsTrue, List, inl, length, refl, string_bytes, subst, sym}
use Rattle.std.specs.List.{All}
use Rattle.std.proofs.lemmas.Result.{err_from_is_err_and}
use Rattle.rv_replies.specs.declared.findings.Finding.{Finding}
use Rattle.rv_replies.specs.findings.Findings.{IsKeptFinding}
use Rattle.rv_run.specs.inspect.Lines.{count_lines}
use Rattle.rv_run.specs.inspect.Report.{FindsFirst}
use Rattle.rv_run.specs.inspect.Texts.{IsOneText}
use Rattle.rv_run.proofs.OfInspect.Finding.{kept_told}
use Rattle.rv_run.proofs.OfInspect.Sending.{reports_stop, reports_took}
use Rattle.rv_run.proofs.inspect.telling.tell_records.Goals as goal

pub returns-in_err-findings-clause-part : goal.returns-in_err-findings-clause-part
returns-in_err-findings-clause-part g c lines piece =
    let exit = err_from_is_err_and c.from_residual.result c.from_residual.ensures.1 in
    rw (exit.1, exit.2) (inl refl)

pub returns-in_err-counts-clause-part : goal.returns-in_err-counts-clause-part
returns-in_err-counts-clause-part g c lines piece =
    let exit = err_from_is_err_and c.from_residual-in_err-counts.result
    c.from_residual-in_err-counts.ensures.1 in
    rw (exit.1, exit.2) (inl refl)

pub returns-in_err-tell_lines-clause-part : goal.returns-in_err-tell_lines-clause-part
returns-in_err-tell_lines-clause-part g c lines piece =
    let r = c.args.records.now in
    let fs = c.deref-2.result.now in
    let exit = err_from_is_err_and c.from_residual-in_err-tell_lines.result
    c.from_residual-in_err-tell_lines.ensures.1 in
    rw (exit.1, exit.2) (reports_stop lines r c.args.epoch fs c.count_beside-differing.result
    c.count_beside-repeating.result
    (subst (FindsFirst r c.args.epoch (length r.lines.items)) (sym c.deref-2.ensures.value)
    c.in_ok-findings.ensures) c.count_beside-differing.ensures c.count_beside-repeating.ensures
    g.W.Write.contents _ _ _
    (c.in_err-tell_lines.ensures.part lines (count_lines fs c.count_beside-differing.result
    c.count_beside-repeating.result) piece
    (subst (IsOneText (count_lines fs c.count_beside-differing.result c.count_beside-repeating.result))
    (sym c.as_str.ensures.value)
    (subst (λ (l : List Finding). IsOneText (count_lines l c.count_beside-differing.result
    c.count_beside-repeating.result)
    (string_bytes c.in_ok-counts.counts)) (c.deref.ensures.value ∙ sym c.deref-2.ensures.value)
    c.in_ok-counts.ensures))))

pub returns-clause-kept : goal.returns-clause-kept
returns-clause-kept g c = kept_told c.args.records.now c.args.epoch c.in_ok-findings.findings.items
    c.are_kept.result c.in_ok-findings.ensures (subst
    (λ (fs : List Finding). IsTrue c.are_kept.result ↔ All IsKeptFinding fs) c.deref-3.ensures.value
    c.are_kept.ensures)

pub returns-clause-all : goal.returns-clause-all
returns-clause-all g c lines piece =
    let r = c.args.records.now in
    let fs = c.deref-2.result.now in
    reports_took lines r c.args.epoch fs c.count_beside-differing.result c.count_beside-repeating.result
    (subst (FindsFirst r c.args.epoch (length r.lines.items)) (sym c.deref-2.ensures.value)
    c.in_ok-findings.ensures) c.count_beside-differing.ensures c.count_beside-repeating.ensures
    g.W.Write.contents _ _
    (c.in_ok-tell_lines.ensures.all lines (count_lines fs c.count_beside-differing.result
    c.count_beside-repeating.result) piece
    (subst (IsOneText (count_lines fs c.count_beside-differing.result c.count_beside-repeating.result))
    (sym c.as_str.ensures.value)
    (subst (λ (l : List Finding). IsOneText (count_lines l c.count_beside-differing.result
    c.count_beside-repeating.result)
    (string_bytes c.in_ok-counts.counts)) (c.deref.ensures.value ∙ sym c.deref-2.ensures.value)
    c.in_ok-counts.ensures)))
