-- The law, which WaitingLaws proves.
use Rattle.rv_account.proofs.OfState.OfWaiting.WaitingLaws.{told_fits}
use Rattle.rv_account.proofs.state.waiting.laws.told_fits.Goals as goal

pub returns : goal.returns
returns c = told_fits
