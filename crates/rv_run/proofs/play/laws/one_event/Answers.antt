-- By the word, and then by the fields.
use Rattle.rv_run.proofs.OfPlay.OneEvent.{event_once}
use Rattle.rv_run.proofs.play.laws.one_event.Goals as goal

pub returns : goal.returns
returns c = event_once c.one_call.ensures
