-- None can be left of none.
use Rattle.rv_engine.proofs.Running.{hands_on_next}
use Rattle.rv_engine.proofs.laws.hands_on_next.Goals as goal

pub returns : goal.returns
returns c = hands_on_next
