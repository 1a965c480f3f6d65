-- The law, which AccountLaws proves.
use Rattle.rv_account.proofs.OfState.Resumed.AccountLaws.{fitting_resume}
use Rattle.rv_account.proofs.state.resume.laws.fitting_resume.Goals as goal

pub returns : goal.returns
returns c = fitting_resume
