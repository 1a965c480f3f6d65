-- A plain byte more.
use Rattle.std.proofs.Common.{◌≡◌, ◌<◌, ◌∷◌, [], length, get_or, subst, arith}
use Rattle.json.specs.Print.{escape_byte}
use Rattle.rv_json.proofs.FlatParts.{plain_more}
use Rattle.rv_json.proofs.scan.plain_end.Goals as goal

pub plain-preserved : goal.plain-preserved
plain-preserved c =
    let at = c.plain.at in
    let same = c.as_bytes-bytes.ensures.value in
    let within : at < length c.args.text.now = subst (λ d. at < length d) same c.plain-test.true in
    let plain = subst (λ d. escape_byte (get_or d at 0) ≡ get_or d at 0 ∷ []) same
    (c.is_plain.ensures c.if-is_plain.true) in (
      omega (arith, c.plain.invariant.0),
      omega (arith, within),
      plain_more c.args.text.now c.args.from at c.plain.invariant.0 within plain c.plain.invariant.2,
    )
