-- The law, which StateLaws proves.
use Rattle.rv_account.proofs.OfState.StateLaws.{states_keep_rules}
use Rattle.rv_account.proofs.state.laws.states_keep_rules.Goals as goal

pub returns : goal.returns
returns c = states_keep_rules
