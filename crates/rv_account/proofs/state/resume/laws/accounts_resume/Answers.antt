-- The law, which AccountLaws proves.
use Rattle.rv_account.proofs.OfState.Resumed.AccountLaws.{accounts_resume}
use Rattle.rv_account.proofs.state.resume.laws.accounts_resume.Goals as goal

pub returns : goal.returns
returns c = accounts_resume
