-- The law, which WaitingLaws proves.
use Rattle.rv_account.proofs.OfState.OfWaiting.WaitingLaws.{moves_last}
use Rattle.rv_account.proofs.state.waiting.laws.moves_last.Goals as goal

pub returns : goal.returns
returns c = moves_last
