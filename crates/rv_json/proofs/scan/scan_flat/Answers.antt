-- A member more, and at last the bracket.
use Rattle.std.proofs.Common.{◌≡◌, ◌∷◌, ◌++◌, Some, take, drop, arith, subst, sym, ap, ◌∙◌}
use Rattle.std.proofs.lemmas.List.{length-set, take_more_set}
use Rattle.serde_json.specs.Data.{object}
use Rattle.rv_json.specs.Flat.{flat_members}
use Rattle.rv_json.specs.Scan.{each_text, field_text, mark_after, FitEach}
use Rattle.rv_json.proofs.FlatParts.{more_read, last_ends, FitEach-push}
use Rattle.rv_json.proofs.ReadBack.{flat_text}
use Rattle.rv_json.proofs.scan.scan_flat.Goals as goal

pub returns-then-next-text-clause-value : goal.returns-then-next-text-clause-value
returns-then-next-text-clause-value c =
    let t = c.args.text.now in
    let f = c.in-Some-scan_field.field in
    let next = c.in-Some-scan_field.next in
    let fs = take c.turns.count c.turns.places in
    let is : drop c.turns.at t ≡ field_text f ++ (125 ∷ drop next t) =
    subst (λ last. drop c.turns.at t ≡ field_text f ++ (mark_after 125 last ∷ drop next t)) c.if-last.true
    c.in-Some-scan_field.ensures.text in
    let whole = last_ends t fs f (drop c.turns.at t) next c.turns.invariant.0 is c.if-next-text.true in
    flat_text fs f t (FitEach-push fs f c.turns.invariant.1 c.in-Some-scan_field.ensures.fits) whole
    ∙ ap (λ all. Some (object (flat_members all))) (sym (take_more_set c.turns.places c.turns.count f
    c.turns-test.true))

pub turns-preserved : goal.turns-preserved
turns-preserved c =
    let t = c.args.text.now in
    let f = c.in-Some-scan_field.field in
    let next = c.in-Some-scan_field.next in
    let fs = take c.turns.count c.turns.places in
    let is : drop c.turns.at t ≡ field_text f ++ (44 ∷ drop next t) =
    subst (λ last. drop c.turns.at t ≡ field_text f ++ (mark_after 125 last ∷ drop next t)) c.if-last.false
    c.in-Some-scan_field.ensures.text in
    let pushed = sym (take_more_set c.turns.places c.turns.count f c.turns-test.true) in (
      more_read t fs f (drop c.turns.at t) (drop next t) c.turns.invariant.0 is
          ∙ ap (λ all. 123 ∷ (each_text all ++ drop next t)) pushed,
      subst FitEach pushed (FitEach-push fs f c.turns.invariant.1 c.in-Some-scan_field.ensures.fits),
      omega (arith, length-set c.turns.places c.turns.count f),
    )
