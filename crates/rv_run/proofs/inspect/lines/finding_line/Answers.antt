-- What became of the line's request is known.
use Rattle.std.proofs.Common.{◌+◌, ◌≡◌, ◌∙◌, Some, ap, option_map, string_bytes, subst, sym}
use Rattle.std.proofs.lemmas.Option.{none-some, same_Some}
use Rattle.std.proofs.lemmas.Result.{IfOk-weaker}
use Rattle.rv_run.specs.inspect.Lines.{SaysFate, finding_text, instead_said}
use Rattle.rv_run.proofs.OfInspect.SameLine.{same_told, says_fate}
use Rattle.rv_run.proofs.inspect.lines.finding_line.Goals as goal

pub returns-in-Some-clause-told : goal.returns-in-Some-clause-told
returns-in-Some-clause-told c a told at noted =
    let there = c.line.ensures ∙ ap Some c.in-Told.is in
    let same = same_told c.in-Told.told told (sym there ∙ at) in
    let its = c.fate.ensures a told at noted in
    let alike : c.in-Some.fate.now ≡ its.0 =
    same_Some _ _ (subst (λ o. option_map (λ f. f.now) o ≡ Some its.0) c.in-Some.is its.1) in
    IfOk-weaker c.fate_line.result
    (λ s. string_bytes s ≡ finding_text (c.args.index + 1) c.args.finding
    (instead_said c.args.finding c.in-Told.told.key c.in-Some.fate.now))
    (λ s. SaysFate a told (c.args.index + 1) c.args.finding (string_bytes s))
    (λ s is. says_fate a c.in-Told.told told c.in-Some.fate.now its.0 (c.args.index + 1) c.args.finding
    (string_bytes s) same alike its.2 is) c.fate_line.ensures

pub returns-in-None-clause-told : goal.returns-in-None-clause-told
returns-in-None-clause-told c a told at noted =
    let its = c.fate.ensures a told at noted in
    absurd (none-some its.0 (subst (λ o. option_map (λ f. f.now) o ≡ Some its.0) c.in-None.is its.1))
