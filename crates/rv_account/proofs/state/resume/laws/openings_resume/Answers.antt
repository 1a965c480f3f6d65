-- The law, which ResumeLaws proves.
use Rattle.rv_account.proofs.OfState.Resumed.ResumeLaws.{openings_resume}
use Rattle.rv_account.proofs.state.resume.laws.openings_resume.Goals as goal

pub returns : goal.returns
returns c = openings_resume
