-- It is so of what the account gives.
use Rattle.rv_replies.proofs.OfFindings.OneFinding.{one_finding}
use Rattle.rv_replies.proofs.findings.laws.one_finding.Goals as goal

pub returns : goal.returns
returns c = one_finding
