-- The law, which StateLaws proves.
use Rattle.rv_account.proofs.OfState.StateLaws.{one_future}
use Rattle.rv_account.proofs.state.laws.one_future.Goals as goal

pub returns : goal.returns
returns c = one_future
