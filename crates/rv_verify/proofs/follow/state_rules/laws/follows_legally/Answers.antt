-- The law, which RuleLaws proves.
use Rattle.rv_verify.proofs.OfFollow.OfAsked.RuleLaws.{follows_legally}
use Rattle.rv_verify.proofs.follow.state_rules.laws.follows_legally.Goals as goal

pub returns : goal.returns
returns c = follows_legally
