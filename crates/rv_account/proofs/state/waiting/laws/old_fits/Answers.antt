-- The law, which WaitingLaws proves.
use Rattle.rv_account.proofs.OfState.OfWaiting.WaitingLaws.{old_fits}
use Rattle.rv_account.proofs.state.waiting.laws.old_fits.Goals as goal

pub returns : goal.returns
returns c = old_fits
