-- What stood before, and the tokens of those that the loop passed.
use Rattle.std.proofs.Common.{◌≡◌, ◌++◌, take}
use Rattle.std.specs.Prelude.{flat_map}
use Rattle.rv_status.specs.Values.{sample_value, tokens_of}
use Rattle.rv_status.proofs.members.put_samples.Given as goal

abbrev pub invariant-loop-row : goal.invariant-loop-row
invariant-loop-row l =
    (l.writer.tokens ≡ l.initial.writer.tokens ++ flat_map (λ row. tokens_of (sample_value row))
    (take l.row-index l.rows))
    × (l.writer.before ≡ l.initial.writer.before)
