-- The cells stand between the brackets.
use Rattle.std.proofs.lemmas.Result.{on_ok_weaker}
use Rattle.rv_status.proofs.Told.{row_told}
use Rattle.rv_status.proofs.members.put_queue.Goals as goal

pub returns-clause-tokens : goal.returns-clause-tokens
returns-clause-tokens c =
    on_ok_weaker c.end_array.result
    (row_told _ _ _ _ _ _ _ c.in_ok-begin_array.ensures.ok c.in_ok-put_cells.ensures.tokens)
    c.end_array.ensures.ok
