-- A text more, and at last the bracket.
use Rattle.std.proofs.Common.{◌≡◌, ◌++◌, [], ◌∷◌, drop, refl, subst, arith, length-append}
use Rattle.json.specs.Print.{quoted}
use Rattle.rv_json.specs.Scan.{mark_after}
use Rattle.rv_json.proofs.ListText.{text_more, text_last}
use Rattle.rv_json.proofs.scan.elements_end.Goals as goal

pub texts-init : goal.texts-init
texts-init c = ([], refl, refl, omega arith)

pub returns-then-last-clause-list : goal.returns-then-last-clause-list
returns-then-last-clause-list c =
    let d = c.args.text.now in
    let here = c.in-Some in
    let s = here._element.now in
    let texts = c.texts.invariant.0 in
    let is : drop c.texts.at d ≡ quoted s ++ (93 ∷ drop here.after d) =
    subst (λ last. drop c.texts.at d ≡ quoted s ++ (mark_after 93 last ∷ drop here.after d)) c.if-last.true
    here.ensures.text in
    record {
      texts = texts ++ s ∷ [];
      few = omega (arith, length-append texts (s ∷ []), c.texts.invariant.2, c.texts-test.true);
      text = text_last (drop c.args.first d) texts s (drop c.texts.at d) (drop here.after d)
          c.texts.invariant.1 is;
    }

pub texts-preserved : goal.texts-preserved
texts-preserved c =
    let d = c.args.text.now in
    let here = c.in-Some in
    let s = here._element.now in
    let texts = c.texts.invariant.0 in
    let is : drop c.texts.at d ≡ quoted s ++ (44 ∷ drop here.after d) =
    subst (λ last. drop c.texts.at d ≡ quoted s ++ (mark_after 93 last ∷ drop here.after d)) c.if-last.false
    here.ensures.text in (
      texts ++ s ∷ [],
      text_more (drop c.args.first d) texts s (drop c.texts.at d) (drop here.after d) c.texts.invariant.1 is,
      omega (arith, length-append texts (s ∷ []), c.texts.invariant.2),
      omega (arith, c.texts.invariant.3, here.ensures.on),
    )
