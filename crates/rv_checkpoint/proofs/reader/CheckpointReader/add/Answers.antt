-- Nothing comes after the end.
use Rattle.rv_checkpoint.proofs.AllSaid.{nothing_next}
use Rattle.rv_checkpoint.proofs.reader.CheckpointReader.add.Goals as goal

pub returns-then-self-clause-bad : goal.returns-then-self-clause-bad
returns-then-self-clause-bad c told = nothing_next _ _ _ _ _ _ c.if-self.true
