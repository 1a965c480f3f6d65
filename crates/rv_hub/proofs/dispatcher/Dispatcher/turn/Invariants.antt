-- What was done so far is a turn but for its end.
use Rattle.std.proofs.Common.{◌+◌, ◌-◌, length}
use Rattle.rv_hub.specs.dispatcher.Fields.{IsSteady}
use Rattle.rv_hub.specs.dispatcher.Going.{unread_at}
use Rattle.rv_hub.proofs.OfDispatcher.Turning.{TurnSoFar}
use Rattle.rv_hub.proofs.dispatcher.Dispatcher.turn.Given as goal

abbrev pub invariant-loop-self : goal.invariant-loop-self
invariant-loop-self l = IsSteady l.self × TurnSoFar l.fn.self l.connection l.piece l.taken l.self

abbrev pub decreases-loop-self : goal.decreases-loop-self
decreases-loop-self l = unread_at l.self l.connection + (length l.piece - l.taken)
