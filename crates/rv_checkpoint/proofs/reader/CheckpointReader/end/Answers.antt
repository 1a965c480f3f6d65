-- The end has other numbers.
use Rattle.std.proofs.Common.{arith}
use Rattle.rv_checkpoint.proofs.AllSaid.{no_end_next}
use Rattle.rv_checkpoint.proofs.reader.CheckpointReader.end.Goals as goal

pub returns-then-not-has_said-clause-bad : goal.returns-then-not-has_said-clause-bad
returns-then-not-has_said-clause-bad c told = no_end_next _ _ _ _ _ _ _ c.requires
    (λ places clients. let said = c.has_said.ensures.1 (places, clients) in absurd (grind (arith, said)))
