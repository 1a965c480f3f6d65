-- The law, which StateLaws proves.
use Rattle.rv_account.proofs.OfState.StateLaws.{moves_exist_under}
use Rattle.rv_account.proofs.state.laws.moves_exist_under.Goals as goal

pub returns : goal.returns
returns c = moves_exist_under
