-- Each token comes after those before it.
use Rattle.std.proofs.lemmas.Result.{on_ok_weaker}
use Rattle.rv_status.specs.Values.{waiting_value}
use Rattle.rv_status.proofs.Told.{list_told}
use Rattle.rv_status.proofs.members.put_requests.Goals as goal

pub returns-clause-tokens : goal.returns-clause-tokens
returns-clause-tokens c =
    on_ok_weaker c.end_array.result
    (list_told waiting_value c.args.rows.now c.args.name.now _ _ _ _ _ c.in_ok-key.ensures.ok
    c.in_ok-begin_array.ensures.ok
    c.in_ok-put_each_request.ensures.tokens) c.end_array.ensures.ok
