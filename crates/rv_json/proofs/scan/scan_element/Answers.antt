-- The text, and the mark that stands after it.
use Rattle.std.proofs.Common.{◌++◌, ap, ◌∙◌}
use Rattle.json.specs.Print.{quoted}
use Rattle.rv_json.proofs.scan.scan_element.Goals as goal

pub returns-clause-text : goal.returns-clause-text
returns-clause-text c =
    c.in-Some.ensures.text
    ∙ ap (λ l. quoted c.in-Some.element.now ++ l) c.in-Some-scan_mark.ensures.text
