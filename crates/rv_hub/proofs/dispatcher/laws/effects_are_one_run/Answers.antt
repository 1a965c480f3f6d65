-- Each effect is a cause of the book's state, or leaves it.
use Rattle.rv_hub.proofs.OfDispatcher.OneBook.{one_run}
use Rattle.rv_hub.proofs.dispatcher.laws.effects_are_one_run.Goals as goal

pub returns : goal.returns
returns c = one_run
