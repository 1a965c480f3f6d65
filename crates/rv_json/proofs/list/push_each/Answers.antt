-- An item more, and at last the bracket.
use Rattle.std.proofs.Common.{◌≡◌, ◌++◌, [], ◌∷◌, length, get_or, drop, sym, ap, ◌∙◌, subst, arith}
use Rattle.std.proofs.Common.{length-append}
use Rattle.std.proofs.lemmas.Bool.{eqb-true}
use Rattle.json.specs.Print.{quoted}
use Rattle.rv_json.specs.Scan.{mark_after}
use Rattle.rv_json.proofs.ListText.{each_quoted, opened, text_more, whole_read}
use Rattle.rv_json.proofs.list.push_each.Goals as goal

pub texts-init : goal.texts-init
texts-init c = (
  sym (ap (λ texts. each_quoted texts ++ drop 1 c.args.text.now) c.requires),
  ap (λ texts. length texts) c.requires,
)

pub returns-then-last : goal.returns-then-last
returns-then-last c all =
    let d = c.args.text.now in
    let here = c.in-Some in
    let s = here.element.now in
    let texts = c.texts.items in
    let same = c.as_bytes-bytes.ensures.value in
    let opening : get_or d 0 0 ≡ 91 = subst (λ d. get_or d 0 0 ≡ 91) same c.if-bytes-ne91.false in
    let is : drop c.texts.at d ≡ quoted s ++ (93 ∷ drop here.after d) =
    subst (λ last. drop c.texts.at d ≡ quoted s ++ (mark_after 93 last ∷ drop here.after d)) c.if-last.true
    here.ensures.text in
    let ends : here.after ≡ length d =
    subst (λ d. here.after ≡ length d) same (eqb-true here.after (length c.as_bytes-bytes.result.now) all) in
    c.in_ok-push_copy.ensures
    ∙ sym (whole_read d texts s (drop c.texts.at d) here.after (opened d opening) c.texts.invariant.0
    (omega (arith, c.texts.invariant.1, c.texts-test.true)) is ends)

pub texts-preserved : goal.texts-preserved
texts-preserved c =
    let d = c.args.text.now in
    let here = c.in-Some in
    let s = here.element.now in
    let texts = c.texts.items in
    let is : drop c.texts.at d ≡ quoted s ++ (44 ∷ drop here.after d) =
    subst (λ last. drop c.texts.at d ≡ quoted s ++ (mark_after 93 last ∷ drop here.after d)) c.if-last.false
    here.ensures.text in
    let pushed = c.in_ok-push_copy.ensures in (
      text_more (drop 1 d) texts s (drop c.texts.at d) (drop here.after d) c.texts.invariant.0 is
          ∙ ap (λ all. each_quoted all ++ drop here.after d) (sym pushed),
      ap (λ all. length all) pushed ∙ omega (arith, length-append texts (s ∷ []), c.texts.invariant.1),
    )
