-- The law, which OneStep proves.
use Rattle.rv_account.proofs.OfState.OneStep.{one_ticked}
use Rattle.rv_account.proofs.state.laws.one_ticked.Goals as goal

pub returns : goal.returns
returns c = one_ticked
