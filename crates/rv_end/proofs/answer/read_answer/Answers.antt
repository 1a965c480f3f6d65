-- What the body tells the answer tells.
use Rattle.std.proofs.Common.{sym}
use Rattle.rv_end.proofs.Asked.{told_by_body}
use Rattle.rv_end.proofs.answer.read_answer.Goals as goal

pub returns-in-Some : goal.returns-in-Some
returns-in-Some c =
    told_by_body c.args.answer.now c.in-Some.body.now c.read_told.result (sym c.in-Some.ensures)
    c.read_told.ensures
