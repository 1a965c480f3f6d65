-- The law, which StepLaws proves.
use Rattle.rv_account.proofs.OfState.Resumed.StepLaws.{steps_resume}
use Rattle.rv_account.proofs.state.resume.laws.steps_resume.Goals as goal

pub returns : goal.returns
returns c = steps_resume
