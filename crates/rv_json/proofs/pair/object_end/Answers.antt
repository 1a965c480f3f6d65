-- A member more, and at last the bracket.
use Rattle.std.proofs.Common.{◌≡◌, ◌++◌, [], ◌∷◌, drop, subst, arith}
use Rattle.rv_json.specs.Scan.{field_text, mark_after}
use Rattle.rv_json.proofs.FlatParts.{FitEach-push, more_read, last_read}
use Rattle.rv_json.proofs.pair.object_end.Goals as goal

pub returns-then-last-clause-object : goal.returns-then-last-clause-object
returns-then-last-clause-object c =
    let t = c.args.text.now in
    let f = c.in-Some-scan_field._field in
    let next = c.in-Some-scan_field.next in
    let fs = c.members.invariant.0 in
    let is : drop c.members.place t ≡ field_text f ++ (125 ∷ drop next t) =
    subst (λ last. drop c.members.place t ≡ field_text f ++ (mark_after 125 last ∷ drop next t))
    c.if-last.true c.in-Some-scan_field.ensures.text in
    record {
      fields = fs;
      last = f;
      fit = FitEach-push fs f c.members.invariant.2 c.in-Some-scan_field.ensures.fits;
      text = last_read (drop c.args.at t) fs f (drop c.members.place t) (drop next t) c.members.invariant.1
          is;
    }

pub members-preserved : goal.members-preserved
members-preserved c =
    let t = c.args.text.now in
    let f = c.in-Some-scan_field._field in
    let next = c.in-Some-scan_field.next in
    let fs = c.members.invariant.0 in
    let is : drop c.members.place t ≡ field_text f ++ (44 ∷ drop next t) =
    subst (λ last. drop c.members.place t ≡ field_text f ++ (mark_after 125 last ∷ drop next t))
    c.if-last.false c.in-Some-scan_field.ensures.text in (
      fs ++ f ∷ [],
      more_read (drop c.args.at t) fs f (drop c.members.place t) (drop next t) c.members.invariant.1 is,
      FitEach-push fs f c.members.invariant.2 c.in-Some-scan_field.ensures.fits,
      omega (arith, c.members.invariant.3, c.in-Some-scan_field.ensures.on),
    )
