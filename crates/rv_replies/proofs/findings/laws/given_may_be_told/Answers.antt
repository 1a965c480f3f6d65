-- It is so of what the account gives.
use Rattle.rv_replies.proofs.OfFindings.Suited.{given_may_be_told}
use Rattle.rv_replies.proofs.findings.laws.given_may_be_told.Goals as goal

pub returns : goal.returns
returns c = given_may_be_told
