-- Bytes are read from the left in one way.
use Rattle.rv_frame.proofs.Cuts.{one_cut}
use Rattle.rv_frame.proofs.laws.one_cut.Goals as goal

pub returns : goal.returns
returns c = one_cut
