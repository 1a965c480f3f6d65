-- Each text is that of a flat object, and so is read as it; and both together.
use Rattle.std.proofs.Common.{rules, sym, subst}
use Rattle.rv_json.specs.Pair.{IsFlatText}
use Rattle.rv_json.proofs.PairText.{reads_pair}
use Rattle.rv_json.proofs.pair.two_objects.Goals as goal

pub returns : goal.returns
returns c =
    reads_pair c.args.bytes.now c.args.first.now c.as_bytes.result.now c.args.second.now
    c.as_bytes-2.result.now
    (search rules) c.as_bytes.ensures.utf8 c.as_bytes-2.ensures.utf8 (search rules)
    (subst IsFlatText (sym c.as_bytes.ensures.value) c.in-Some.ensures.one)
    (subst IsFlatText (sym c.as_bytes-2.ensures.value) c.in-Some.ensures.other)
