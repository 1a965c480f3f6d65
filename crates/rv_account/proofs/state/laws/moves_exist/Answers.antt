-- The law, which StateLaws proves.
use Rattle.rv_account.proofs.OfState.StateLaws.{moves_exist}
use Rattle.rv_account.proofs.state.laws.moves_exist.Goals as goal

pub returns : goal.returns
returns c = moves_exist
