-- By cases of the two outcomes.
use Rattle.rv_client.proofs.OneOutcome.{one_outcome}
use Rattle.rv_client.proofs.laws.one_outcome.Goals as goal

pub returns : goal.returns
returns c = one_outcome
