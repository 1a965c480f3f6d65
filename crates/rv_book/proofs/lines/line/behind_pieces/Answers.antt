-- A piece in which no byte is the one is passed.
use Rattle.rv_book.proofs.OfLines.Behind.{behind_piece}
use Rattle.rv_book.proofs.lines.line.behind_pieces.Goals as goal

pub loop-piece-preserved : goal.loop-piece-preserved
loop-piece-preserved c =
    behind_piece 16 c.args.byte c.args.bytes.now c.loop-piece.rest.now c.in-Some.piece.now
    c.in-Some.after.now c.loop-piece.invariant c.in-Some.ensures.cases.0 c.in-Some.ensures.cases.1
    c.if-contains.ensures.cases
