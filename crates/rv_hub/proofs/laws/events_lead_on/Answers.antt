-- Each effect leads on.
use Rattle.rv_hub.proofs.Accounts.{begins, effects_lead, events_lead}
use Rattle.rv_hub.proofs.laws.events_lead_on.Goals as goal

pub returns-clause-begins : goal.returns-clause-begins
returns-clause-begins c = begins

pub returns-clause-effects : goal.returns-clause-effects
returns-clause-effects c = effects_lead

pub returns-clause-events : goal.returns-clause-events
returns-clause-events c = events_lead
