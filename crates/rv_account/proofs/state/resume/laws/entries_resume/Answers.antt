-- The law, which ResumeLaws proves.
use Rattle.rv_account.proofs.OfState.Resumed.ResumeLaws.{entries_resume}
use Rattle.rv_account.proofs.state.resume.laws.entries_resume.Goals as goal

pub returns : goal.returns
returns c = entries_resume
