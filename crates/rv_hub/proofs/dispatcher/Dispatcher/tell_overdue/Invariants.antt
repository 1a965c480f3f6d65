-- Those that were told so far have waited longest.
use Rattle.rv_server_connections.specs.subscribers.Subscribers.{subscribers_count}
use Rattle.rv_hub.specs.dispatcher.Fields.{IsDispatcherSound}
use Rattle.rv_hub.proofs.OfDispatcher.Late.{TellsLateSoFar}
use Rattle.rv_hub.proofs.dispatcher.Dispatcher.tell_overdue.Given as goal

abbrev pub invariant-loop-connection : goal.invariant-loop-connection
invariant-loop-connection l = IsDispatcherSound l.self × TellsLateSoFar l.initial.self l.self

abbrev pub decreases-loop-connection : goal.decreases-loop-connection
decreases-loop-connection l = subscribers_count l.self.subscribers
