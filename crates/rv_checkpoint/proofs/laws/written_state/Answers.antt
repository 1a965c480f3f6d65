-- Each line is read as what it was written for.
use Rattle.rv_checkpoint.proofs.WrittenLines.{written_again}
use Rattle.rv_checkpoint.proofs.laws.written_state.Goals as goal

pub returns : goal.returns
returns c = written_again
