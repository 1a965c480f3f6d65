-- Each token comes after those before it.
use Rattle.std.proofs.Common.{codes}
use Rattle.std.proofs.lemmas.Result.{on_ok_weaker}
use Rattle.rv_status.specs.Values.{queue_value}
use Rattle.rv_status.proofs.Told.{list_told}
use Rattle.rv_status.proofs.members.put_queues.Goals as goal

pub returns-clause-tokens : goal.returns-clause-tokens
returns-clause-tokens c =
    on_ok_weaker c.end_array.result
    (list_told queue_value c.args.rows.now (codes "queues") _ _ _ _ _ c.in_ok-key.ensures.ok
    c.in_ok-begin_array.ensures.ok
    c.in_ok-put_each_queue.ensures.tokens) c.end_array.ensures.ok
