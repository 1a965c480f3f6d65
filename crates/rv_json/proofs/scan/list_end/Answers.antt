-- The bracket stands in front of the list's texts, or of the closing one.
use Rattle.std.proofs.Common.{[], ◌∷◌, drop, sym, ap, ◌∙◌, subst, arith, IfSome}
use Rattle.rv_json.specs.Scan.{BeginsByList}
use Rattle.rv_json.proofs.scan.list_end.Goals as goal

pub returns-in-Some-after_byte-clause-list : goal.returns-in-Some-after_byte-clause-list
returns-in-Some-after_byte-clause-list c = record {
  texts = [];
  few = omega arith;
  text = c.in-Some.ensures.text ∙ ap (λ l. 91 ∷ l) c.in-Some-after_byte.ensures.text;
}

pub returns-clause-list : goal.returns-clause-list
returns-clause-list c =
    subst (λ l. IfSome c.elements_end.result (λ end. BeginsByList l (drop end c.args.text.now)))
    (sym c.in-Some.ensures.text) c.elements_end.ensures.list
