-- By the turns.
use Rattle.rv_run.proofs.OfPlay.Running.{play_runs}
use Rattle.rv_run.proofs.play.laws.play_is_run.Goals as goal

pub returns : goal.returns
returns c = play_runs
