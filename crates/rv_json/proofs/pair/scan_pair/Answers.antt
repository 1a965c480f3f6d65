-- The brackets, the two members, and the comma between them.
use Rattle.std.proofs.Common.{drop, arith}
use Rattle.std.proofs.lemmas.List.{drop_all}
use Rattle.rv_json.proofs.PairText.{pair_parts}
use Rattle.rv_json.proofs.pair.scan_pair.Goals as goal

pub returns-then-end-text-clause-text : goal.returns-then-end-text-clause-text
returns-then-end-text-clause-text c =
    let d = c.args.text.now in
    pair_parts c.args.first.now c.in-Some-scan_member.one.now c.args.second.now
    c.in-Some-scan_member-2.other.now d
    (drop c.in-Some.start d) (drop c.in-Some-scan_member.comma d) (drop c.in-Some-after_byte.next d)
    (drop c.in-Some-scan_member-2.close d) (drop c.in-Some-after_byte-2.end d) c.in-Some.ensures.text
    c.in-Some-scan_member.ensures.text c.in-Some-after_byte.ensures.text c.in-Some-scan_member-2.ensures.text
    c.in-Some-after_byte-2.ensures.text
    (drop_all c.in-Some-after_byte-2.end d (omega (arith, c.if-end-text.true)))
