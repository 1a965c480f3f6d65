-- The law, which RuleLaws proves.
use Rattle.rv_verify.proofs.OfFollow.OfAsked.RuleLaws.{closed_breaks}
use Rattle.rv_verify.proofs.follow.state_rules.laws.closed_breaks.Goals as goal

pub returns : goal.returns
returns c = closed_breaks
