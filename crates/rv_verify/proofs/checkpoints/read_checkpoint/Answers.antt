-- No state is said by lines that don't go on so, nor where none is given at their end.
use Rattle.std.proofs.Common.{Ok, ap}
use Rattle.rv_book.specs.lines.Lines.{lines}
use Rattle.rv_verify.proofs.checkpoints.read_checkpoint.Goals as goal

pub returns-then-branch-clause-none : goal.returns-then-branch-clause-none
returns-then-branch-clause-none g c = λ bytes s is none.
    c.finish.ensures.none (cc) (lines bytes) s (c.in_ok-take_lines.ensures.yes bytes is
    (ap Ok c.if-branch.true))

pub returns-else-branch-clause-none : goal.returns-else-branch-clause-none
returns-else-branch-clause-none g c = λ bytes s is none. c.in_ok-take_lines.ensures.no bytes s is (ap Ok
    c.if-branch.false)
