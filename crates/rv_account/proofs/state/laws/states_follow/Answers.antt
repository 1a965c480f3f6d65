-- The law, which StateLaws proves.
use Rattle.rv_account.proofs.OfState.StateLaws.{states_follow}
use Rattle.rv_account.proofs.state.laws.states_follow.Goals as goal

pub returns : goal.returns
returns c = states_follow
