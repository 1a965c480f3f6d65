-- It is so of what the account gives.
use Rattle.rv_replies.proofs.OfFindings.KeptTold.{kept_is_told}
use Rattle.rv_replies.proofs.findings.laws.kept_is_told.Goals as goal

pub returns : goal.returns
returns c = kept_is_told
