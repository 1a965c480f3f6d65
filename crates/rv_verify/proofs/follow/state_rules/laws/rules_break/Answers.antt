-- The law, which RuleLaws proves.
use Rattle.rv_verify.proofs.OfFollow.OfAsked.RuleLaws.{rules_break}
use Rattle.rv_verify.proofs.follow.state_rules.laws.rules_break.Goals as goal

pub returns : goal.returns
returns c = rules_break
