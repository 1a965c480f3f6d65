-- Those that wait for a request of the first keys were told.
use Rattle.rv_hub.specs.dispatcher.Fields.{IsDispatcherSound}
use Rattle.rv_hub.proofs.OfDispatcher.KeyByKey.{TellsKeysSoFar}
use Rattle.rv_hub.proofs.dispatcher.Dispatcher.tell_settled.Given as goal

abbrev pub invariant-loop-at : goal.invariant-loop-at
invariant-loop-at l = IsDispatcherSound l.self × TellsKeysSoFar l.initial.self
    l.initial.self.machine.settled.items
    l.at l.self
