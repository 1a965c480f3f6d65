-- Each move of a state is a step of its account.
use Rattle.rv_hub.proofs.Accounts.{by_rules}
use Rattle.rv_hub.proofs.laws.answers_by_rules.Goals as goal

pub returns : goal.returns
returns c = by_rules
