-- It is so of what the account gives.
use Rattle.rv_replies.proofs.OfFindings.KeptTold.{one_kept}
use Rattle.rv_replies.proofs.findings.laws.one_kept.Goals as goal

pub returns : goal.returns
returns c = one_kept
