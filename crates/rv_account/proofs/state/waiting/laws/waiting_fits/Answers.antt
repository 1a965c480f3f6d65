-- The law, which WaitingLaws proves.
use Rattle.rv_account.proofs.OfState.OfWaiting.WaitingLaws.{waiting_fits}
use Rattle.rv_account.proofs.state.waiting.laws.waiting_fits.Goals as goal

pub returns : goal.returns
returns c = waiting_fits
