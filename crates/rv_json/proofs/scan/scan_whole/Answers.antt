-- One digit, and then one more each time.
use Rattle.std.proofs.Common.{◌-◌, ◌≤◌, get_or, arith}
use Rattle.rv_json.proofs.FlatParts.{one_digit, digit_more}
use Rattle.rv_json.proofs.scan.scan_whole.Goals as goal

pub returns-then-value-eq0-clause-text : goal.returns-then-value-eq0-clause-text
returns-then-value-eq0-clause-text c =
    let x = get_or c.args.bytes.now c.args.at 0 in
    let digit : (48 ≤ x) × (x ≤ 57) = c.if-not-is_ascii_digit.ensures.cases in
    one_digit c.args.bytes.now c.args.at (x - 48) (omega arith) (omega (arith, digit.0)) (omega
    (arith, digit.1))

pub digits-init : goal.digits-init
digits-init c =
    let x = get_or c.args.bytes.now c.args.at 0 in
    let digit : (48 ≤ x) × (x ≤ 57) = c.if-not-is_ascii_digit.ensures.cases in (
      omega arith,
      omega (arith, digit.0),
      one_digit c.args.bytes.now c.args.at (x - 48) (omega arith)
          (omega (arith, digit.0)) (omega (arith, digit.1)),
    )

pub digits-preserved : goal.digits-preserved
digits-preserved c =
    let l = c.digits in
    let x = get_or c.args.bytes.now l.end 0 in
    let digit : (48 ≤ x) × (x ≤ 57) = c.if-is_ascii_digit.ensures.cases in (
      omega (arith, l.invariant.0),
      omega (arith, l.invariant.1),
      digit_more c.args.bytes.now c.args.at l.end l.value (x - 48)
          (omega arith) (omega (arith, digit.0)) (omega (arith, digit.1)) l.invariant.1 (omega
          (arith, digit.1)) l.invariant.2,
    )
