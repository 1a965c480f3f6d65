-- Between the quotes all is plain.
use Rattle.std.proofs.Common.{◌≡◌, ◌-◌, take, drop, subst, sym}
use Rattle.json.specs.Print.{escape}
use Rattle.rv_json.proofs.FlatParts.{quoted_here}
use Rattle.rv_json.proofs.scan.scan_text.Goals as goal

pub returns-clause-text : goal.returns-clause-text
returns-clause-text c =
    let d = c.args.text.now in
    let from = c.in-Some.from in
    let end = c.plain_end-end.result in
    let s = c.in_ok-get.field-0.now in
    let between : s ≡ take (end - from) (drop from d) = c.in_ok-get.ensures.cases.0 in
    quoted_here d s c.args.at from end c.in-Some-after_byte.after c.in-Some.ensures.text
    c.plain_end-end.ensures.after c.in-Some-after_byte.ensures.text between
    (subst (λ l. escape l ≡ l) (sym between) c.plain_end-end.ensures.plain)
