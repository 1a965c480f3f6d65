-- What was kept so far is what the source gave, and each turn keeps at least one byte.
use Rattle.std.proofs.Common.{◌≤◌, ◌-◌, vec_len}
use Rattle.std.specs.Io.KnownBytes.{Consumes}
use Rattle.rv_frame.specs.Source.{source_remaining}
use Rattle.rv_end.specs.Asking.{max_answer}
use Rattle.rv_end.proofs.answer.gather.Given as goal

abbrev pub invariant-loop-answer : goal.invariant-loop-answer
invariant-loop-answer g l = record {
  within : vec_len l.answer ≤ max_answer;
  given : Consumes (source_remaining g.R.Read.remaining l.initial.from) (source_remaining g.R.Read.remaining
      l.from) l.answer.items;
}

abbrev pub decreases-loop-answer : goal.decreases-loop-answer
decreases-loop-answer g l = max_answer - vec_len l.answer
