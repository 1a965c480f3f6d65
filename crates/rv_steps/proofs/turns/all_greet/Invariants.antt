-- The machine can always make the next one.
use Rattle.rv_steps.proofs.turns.all_greet.Given as goal

abbrev pub invariant-loop-client : goal.invariant-loop-client
invariant-loop-client l = Unit {0}
