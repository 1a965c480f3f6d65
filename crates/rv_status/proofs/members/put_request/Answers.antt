-- The word and the cells stand between the brackets.
use Rattle.std.proofs.lemmas.Result.{on_ok_weaker}
use Rattle.rv_status.proofs.Told.{request_told}
use Rattle.rv_status.proofs.members.put_request.Goals as goal

pub returns-clause-tokens : goal.returns-clause-tokens
returns-clause-tokens c =
    on_ok_weaker c.end_array.result
    (request_told c.args.row.now _ c.word.ensures _ _ _ _ _ c.in_ok-begin_array.ensures.ok
    c.in_ok-string.ensures.ok c.in_ok-put_request_cells.ensures.tokens) c.end_array.ensures.ok
