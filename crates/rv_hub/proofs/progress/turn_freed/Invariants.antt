-- Those that went on so far are the first.
use Rattle.std.proofs.Common.{◌+◌, ◌-◌, length}
use Rattle.rv_hub.specs.dispatcher.Fields.{IsSteady}
use Rattle.rv_hub.specs.dispatcher.Going.{work_left}
use Rattle.rv_hub.proofs.Rounds.{TurnsSoFar}
use Rattle.rv_hub.proofs.progress.turn_freed.Given as goal

abbrev pub invariant-loop-connection : goal.invariant-loop-connection
invariant-loop-connection l = IsSteady l.dispatcher × TurnsSoFar l.fn.dispatcher l.source l.piece l.taken
    l.dispatcher

abbrev pub decreases-loop-connection : goal.decreases-loop-connection
decreases-loop-connection l = work_left l.dispatcher + (length l.piece - l.taken)
