-- Whom an effect settled had waited.
use Rattle.rv_hub.proofs.OfDispatcher.Waited.{others_waited}
use Rattle.rv_hub.proofs.dispatcher.laws.others_waited.Goals as goal

pub returns : goal.returns
returns c = others_waited
