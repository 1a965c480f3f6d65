-- By the lines of a step with it.
use Rattle.rv_hub.proofs.Repeating.{as_a_repeat}
use Rattle.rv_hub.proofs.laws.tells_as_a_repeat.Goals as goal

pub returns : goal.returns
returns c = as_a_repeat
