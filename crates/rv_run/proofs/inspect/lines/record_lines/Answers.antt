-- The line of the finding, and after it how the line stands to the first one of its key.
use Rattle.std.proofs.Common.{◌+◌, ◌++◌, ◌∷◌, ◌∙◌, [], None, Some, ap, refl, string_bytes}
use Rattle.std.proofs.lemmas.Result.{IfOk-weaker}
use Rattle.rv_run.specs.inspect.Lines.{beside_text}
use Rattle.rv_run.proofs.OfInspect.Printed.{line_text, two_lines}
use Rattle.rv_run.proofs.inspect.lines.record_lines.Goals as goal

pub returns-in-Some : goal.returns-in-Some
returns-in-Some c =
    let own = string_bytes c.in_ok-line.line in
    let other = beside_text c.in-Some.how (c.args.index + 1) (c.in-Some.first + 1) in
    IfOk-weaker c.with_other.result _ _ (λ s is. line_text c.args.records.now c.args.index c.args.finding own
    (Some (c.in-Some.how, c.in-Some.first)) c.in_ok-line.ensures.told c.in_ok-line.ensures.flawed
    (λ a told there noted. c.in-Some.ensures.told a told there noted) c.in-Some.ensures.flawed
    (string_bytes s)
    (ap (λ l. l ++ 10 ∷ []) (is ∙ ap (λ l. l ++ 10 ∷ other) c.as_str.ensures.value) ∙ two_lines own other))
    c.with_other.ensures

pub returns-in-None : goal.returns-in-None
returns-in-None c = line_text c.args.records.now c.args.index c.args.finding (string_bytes c.in_ok-line.line)
    None c.in_ok-line.ensures.told c.in_ok-line.ensures.flawed
    (λ a told there noted. c.in-None.ensures.told a told there noted) c.in-None.ensures.flawed
    (string_bytes c.in_ok-line.line) refl
