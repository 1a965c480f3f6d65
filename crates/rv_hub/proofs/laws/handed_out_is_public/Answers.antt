-- Each effect gives public answers alone.
use Rattle.rv_hub.proofs.HandedOver.{effects_public, handed_out}
use Rattle.rv_hub.proofs.laws.handed_out_is_public.Goals as goal

pub returns-clause-effects : goal.returns-clause-effects
returns-clause-effects c = effects_public

pub returns-clause-events : goal.returns-clause-events
returns-clause-events c = handed_out
