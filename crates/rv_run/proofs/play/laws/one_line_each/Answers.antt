-- By the turns.
use Rattle.rv_run.proofs.OfPlay.Running.{cut_each}
use Rattle.rv_run.proofs.play.laws.one_line_each.Goals as goal

pub returns : goal.returns
returns c = cut_each
