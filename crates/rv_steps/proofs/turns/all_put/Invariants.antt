-- The machine can always make the next one.
use Rattle.rv_steps.proofs.turns.all_put.Given as goal

abbrev pub invariant-loop-turn : goal.invariant-loop-turn
invariant-loop-turn l = Unit {0}
