-- The law, which StateLaws proves.
use Rattle.rv_account.proofs.OfState.StateLaws.{states_agree}
use Rattle.rv_account.proofs.state.laws.states_agree.Goals as goal

pub returns : goal.returns
returns c = states_agree
