-- The name, its colon, and the flat object after it.
use Rattle.std.proofs.Common.{◌≡◌, ◌++◌, drop, sym, ◌∙◌, subst}
use Rattle.std.proofs.lemmas.Option.{IfSome_then}
use Rattle.std.proofs.lemmas.Bool.{not-false}
use Rattle.std.proofs.lemmas.Slice.Eq.{bytes_eq-Decides}
use Rattle.json.specs.Print.{quoted}
use Rattle.rv_json.proofs.FlatParts.{field_here}
use Rattle.rv_json.proofs.pair.scan_member.Goals as goal

pub returns-clause-text : goal.returns-clause-text
returns-clause-text c =
    let d = c.args.text.now in
    let here = drop c.args.at d in
    let colon = drop c.in-Some.end d in
    let named : c.in-Some.own.now ≡ c.args.name.now =
    (bytes_eq-Decides c.in-Some.own.now c.args.name.now).0
    (not-false _ (sym c.ne.ensures ∙ c.if-ne.false)) in
    let own : here ≡ quoted c.args.name.now ++ colon =
    subst (λ name. here ≡ quoted name ++ colon) named c.in-Some.ensures.text in
    IfSome_then c.scan_object.result c.scan_object.ensures.text
    (λ p is. field_here c.args.name.now p.0.now here colon (drop c.in-Some-after_byte.start d) (drop p.1 d)
    own
    c.in-Some-after_byte.ensures.text is)
