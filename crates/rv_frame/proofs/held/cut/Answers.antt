-- Each head goes on where the frames before it ended.
use Rattle.std.proofs.Common.{List, ℕ, subst}
use Rattle.std.proofs.lemmas.List.{take_rest}
use Rattle.rv_frame.specs.Cut.{BeginsBad, IsUnfinished}
use Rattle.rv_frame.specs.Held.{BeginsFrame}
use Rattle.rv_frame.proofs.Rows.{cut_bad, cut_open, front_more}
use Rattle.rv_frame.proofs.held.cut.Goals as goal

pub loop-size-preserved : goal.loop-size-preserved
loop-size-preserved c =
    let frame = subst (λ (l : List ℕ). BeginsFrame l c.in-Whole.size) (take_rest c.args.bytes.now
    c.loop-size.whole) c.in-Whole.ensures in
    front_more c.args.bytes.now c.loop-size.whole c.in-Whole.size c.loop-size.invariant frame

pub returns-in-Open : goal.returns-in-Open
returns-in-Open c =
    let unfinished = subst IsUnfinished (take_rest c.args.bytes.now c.loop-size.whole) c.in-Open.ensures in
    cut_open c.args.bytes.now c.loop-size.whole c.loop-size.invariant unfinished

pub returns-in-Bad : goal.returns-in-Bad
returns-in-Bad c =
    let bad = subst (λ (l : List ℕ). BeginsBad l c.in-Bad.n) (take_rest c.args.bytes.now c.loop-size.whole)
    c.in-Bad.ensures in
    cut_bad c.args.bytes.now c.loop-size.whole c.in-Bad.n c.loop-size.invariant bad
