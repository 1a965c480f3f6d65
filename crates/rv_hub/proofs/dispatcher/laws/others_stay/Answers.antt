-- Each effect of a turn is of its connection, or tells another, or closes it.
use Rattle.rv_hub.proofs.OfDispatcher.Others.{others_stay}
use Rattle.rv_hub.proofs.dispatcher.laws.others_stay.Goals as goal

pub returns : goal.returns
returns c = others_stay
