-- The law, which StateLaws proves.
use Rattle.rv_account.proofs.OfState.StateLaws.{states_tell_waiting}
use Rattle.rv_account.proofs.state.laws.states_tell_waiting.Goals as goal

pub returns : goal.returns
returns c = states_tell_waiting
