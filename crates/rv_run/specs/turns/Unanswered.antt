-- The bytes of an input that aren't answered.
use Rattle.std.specs.Prelude.{ℕ, List, drop}
use Rattle.rv_run.specs.declared.turns.unanswered.Unanswered.{Unanswered}

abbrev pub unanswered : Unanswered → List ℕ
unanswered input = drop input.answered input.bytes.items
