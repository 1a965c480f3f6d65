-- Each entry of the run is in the front or left.
use Rattle.rv_engine.proofs.Running.{written_are_counted}
use Rattle.rv_engine.proofs.laws.written_are_counted.Goals as goal

pub returns : goal.returns
returns c = written_are_counted
