-- The name, its colon, the value, and the mark that stands after it.
use Rattle.std.proofs.Common.{◌∷◌, ◌++◌, drop, ap, ◌∙◌}
use Rattle.json.specs.Print.{quoted}
use Rattle.rv_json.specs.Scan.{plain_text}
use Rattle.rv_json.proofs.FlatParts.{field_here}
use Rattle.rv_json.proofs.scan.scan_field.Goals as goal

pub returns-clause-text : goal.returns-clause-text
returns-clause-text c =
    let d = c.args.text.now in
    let name = c.in-Some.name.now in
    let value = plain_text c.in-Some-scan_plain.value in
    field_here name value (drop c.args.at d) (drop c.in-Some.end d) (drop c.in-Some-after_byte.start d)
    (drop c.in-Some-scan_plain.after d) c.in-Some.ensures.text c.in-Some-after_byte.ensures.text
    c.in-Some-scan_plain.ensures.text
    ∙ ap (λ l. (quoted name ++ (58 ∷ value)) ++ l) c.in-Some-scan_mark.ensures.text
