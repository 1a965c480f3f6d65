-- What was kept so far is what the source gave, and each turn keeps at least one byte.
use Rattle.std.proofs.Common.{◌≤◌, ◌-◌, vec_len}
use Rattle.std.specs.Io.KnownBytes.{Consumes}
use Rattle.rv_frame.specs.Source.{source_remaining}
use Rattle.rv_run.specs.Input.{max_input}
use Rattle.rv_run.proofs.input.read_input.Given as goal

abbrev pub invariant-loop-input : goal.invariant-loop-input
invariant-loop-input g l = record {
  within : vec_len l.input ≤ max_input;
  given : Consumes (source_remaining g.R.Read.remaining l.initial.source) (source_remaining g.R.Read.remaining
      l.source) l.input.items;
}

abbrev pub decreases-loop-input : goal.decreases-loop-input
decreases-loop-input g l = max_input - vec_len l.input
