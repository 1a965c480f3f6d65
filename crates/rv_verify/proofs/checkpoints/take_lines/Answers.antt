-- A turn takes a line more.
use Rattle.std.proofs.Common.{Ok, ap, subst, ℕ, List}
use Rattle.rv_checkpoint.specs.Reading.{GoesOnBy, StopsAtNext}
use Rattle.rv_verify.specs.Reading.{HasNextPart}
use Rattle.rv_verify.specs.declared.parts.NextPart.{NextPart}
use Rattle.rv_verify.proofs.Checkpointed.{so_end, so_line, so_none, so_piece, so_stopped, so_torn}
use Rattle.rv_verify.proofs.checkpoints.take_lines.Goals as goal

pub loop-turn-init : goal.loop-turn-init
loop-turn-init g c = λ bytes is. so_none bytes c.args.said.now (g.B.Read.remaining c.args.reader.now)
    c.requires is

pub loop-turn-preserved : goal.loop-turn-preserved
loop-turn-preserved g c = λ bytes is.
    let line = c.next_line.new.line.items in
    let taken = c.loop-turn.invariant bytes is in
    so_line taken c.goes_on.new.said (subst (λ (n : NextPart). HasNextPart taken.rest
    (g.B.Read.remaining c.next_line.new.reader) line n) c.in-Line.is
    (c.in_ok-next_line.ensures.next taken.rest taken.is_left))
    (subst (λ (p : List ℕ). GoesOnBy c.loop-turn.said p c.goes_on.new.said) c.deref.ensures.value
    (c.in_ok-goes_on-in-Line.ensures.yes (ap Ok c.if-not-branch.false)))

pub returns-then-not-branch-clause-no : goal.returns-then-not-branch-clause-no
returns-then-not-branch-clause-no g c = λ bytes s is same.
    let line = c.next_line.new.line.items in
    let taken = c.loop-turn.invariant bytes is in
    so_stopped taken s (subst (λ (n : NextPart). HasNextPart taken.rest
    (g.B.Read.remaining c.next_line.new.reader) line n) c.in-Line.is
    (c.in_ok-next_line.ensures.next taken.rest taken.is_left))
    (subst (λ (p : List ℕ). StopsAtNext c.loop-turn.said p) c.deref.ensures.value
    (c.in_ok-goes_on-in-Line.ensures.no (ap Ok c.if-not-branch.true)))

pub returns-in-Piece-clause-yes : goal.returns-in-Piece-clause-yes
returns-in-Piece-clause-yes g c = λ bytes is same.
    let line = c.next_line.new.line.items in
    let taken = c.loop-turn.invariant bytes is in
    so_piece taken c.goes_on-in-Piece.new.said (subst (λ (n : NextPart). HasNextPart taken.rest
    (g.B.Read.remaining c.next_line.new.reader) line n) c.in-Piece.is
    (c.in_ok-next_line.ensures.next taken.rest taken.is_left))
    (subst (λ (p : List ℕ). GoesOnBy c.loop-turn.said p c.goes_on-in-Piece.new.said)
    c.deref-in-Piece.ensures.value (c.goes_on-in-Piece.ensures.yes same))

pub returns-in-Piece-clause-no : goal.returns-in-Piece-clause-no
returns-in-Piece-clause-no g c = λ bytes s is same.
    let line = c.next_line.new.line.items in
    let taken = c.loop-turn.invariant bytes is in
    so_torn taken s (subst (λ (n : NextPart). HasNextPart taken.rest
    (g.B.Read.remaining c.next_line.new.reader) line n) c.in-Piece.is
    (c.in_ok-next_line.ensures.next taken.rest taken.is_left))
    (subst (λ (p : List ℕ). StopsAtNext c.loop-turn.said p) c.deref-in-Piece.ensures.value
    (c.goes_on-in-Piece.ensures.no same))

pub returns-in-End-clause-yes : goal.returns-in-End-clause-yes
returns-in-End-clause-yes g c = λ bytes is same.
    let taken = c.loop-turn.invariant bytes is in
    so_end taken (subst (λ (n : NextPart). HasNextPart taken.rest
    (g.B.Read.remaining c.next_line.new.reader) c.next_line.new.line.items n) c.in-End.is
    (c.in_ok-next_line.ensures.next taken.rest taken.is_left))
