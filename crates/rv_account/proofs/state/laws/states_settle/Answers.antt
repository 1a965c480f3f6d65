-- The law, which StateLaws proves.
use Rattle.rv_account.proofs.OfState.StateLaws.{states_settle}
use Rattle.rv_account.proofs.state.laws.states_settle.Goals as goal

pub returns : goal.returns
returns c = states_settle
