-- By the run of the events that were taken.
use Rattle.rv_world.specs.parts.World.{first_world}
use Rattle.rv_run.specs.play.Laws.{events_of}
use Rattle.rv_run.proofs.OfPlay.Running.{play_runs}
use Rattle.rv_run.proofs.play.laws.headline_of_plays.Goals as goal

pub returns : goal.returns
returns c epoch turns w plays = c.headline_holds.ensures epoch (events_of turns) w
    (play_runs (first_world epoch) w turns plays)
