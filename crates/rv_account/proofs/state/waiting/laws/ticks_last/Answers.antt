-- The law, which WaitingLaws proves.
use Rattle.rv_account.proofs.OfState.OfWaiting.WaitingLaws.{ticks_last}
use Rattle.rv_account.proofs.state.waiting.laws.ticks_last.Goals as goal

pub returns : goal.returns
returns c = ticks_last
