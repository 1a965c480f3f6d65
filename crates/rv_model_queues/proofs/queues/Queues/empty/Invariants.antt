-- So many queues were made, and nobody waits in any.
use Rattle.rv_model_queues.proofs.Words.{◌≡◌, length, AllEmpty}
use Rattle.rv_model_queues.proofs.queues.Queues.empty.Given as goal

abbrev pub invariant-loop : goal.invariant-loop
invariant-loop l = record {
  count : length l.queues.items ≡ l.counter;
  empty : AllEmpty l.queues.items;
}
