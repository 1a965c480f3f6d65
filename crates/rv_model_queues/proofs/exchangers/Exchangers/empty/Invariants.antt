-- So many exchangers were made, and nobody waits at any.
use Rattle.rv_model_queues.proofs.Words.{◌≡◌, length, AllFree}
use Rattle.rv_model_queues.proofs.exchangers.Exchangers.empty.Given as goal

abbrev pub invariant-loop : goal.invariant-loop
invariant-loop l = record {
  count : length l.exchangers.items ≡ l.counter;
  free : AllFree l.exchangers.items;
}
