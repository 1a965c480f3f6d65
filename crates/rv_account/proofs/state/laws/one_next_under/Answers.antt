-- The law, which OneStep proves.
use Rattle.rv_account.proofs.OfState.OneStep.{one_next_under}
use Rattle.rv_account.proofs.state.laws.one_next_under.Goals as goal

pub returns : goal.returns
returns c = one_next_under
