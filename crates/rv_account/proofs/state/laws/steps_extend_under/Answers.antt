-- The law, which Extending proves.
use Rattle.rv_account.proofs.OfState.Extending.{steps_extend_under}
use Rattle.rv_account.proofs.state.laws.steps_extend_under.Goals as goal

pub returns : goal.returns
returns c = steps_extend_under
