-- Effect by effect.
use Rattle.rv_hub.proofs.OfDispatcher.Listing.{effects_are_listed}
use Rattle.rv_hub.proofs.dispatcher.laws.effects_are_listed.Goals as goal

pub returns : goal.returns
returns c = effects_are_listed
