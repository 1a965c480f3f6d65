-- The members come one after another.
use Rattle.std.proofs.lemmas.Result.{on_ok_weaker}
use Rattle.rv_status.proofs.Told.{status_told}
use Rattle.rv_status.proofs.members.put_status.Goals as goal

pub returns-clause-tokens : goal.returns-clause-tokens
returns-clause-tokens c =
    on_ok_weaker c.end_object.result
    (status_told c.args.status.now _ c.as_slice.ensures.value
    _ c.as_slice-2.ensures.value _ c.as_slice-3.ensures.value _ c.as_slice-4.ensures.value
    _ _ _ _ _ _ _ _ _ c.in_ok-begin_object.ensures.ok c.in_ok-put_history.ensures.tokens
    c.in_ok-put_numbers.ensures.tokens c.in_ok-put_queues.ensures.tokens c.in_ok-put_requests.ensures.tokens
    c.in_ok-put_version.ensures.tokens c.in_ok-put_requests-2.ensures.tokens) c.end_object.ensures.ok
