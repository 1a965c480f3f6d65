-- A cut goes on after an open end, and stays at a bad length.
use Rattle.rv_frame.proofs.Cuts.{fed_is_cut}
use Rattle.rv_frame.proofs.laws.fed_is_cut.Goals as goal

pub returns : goal.returns
returns c = fed_is_cut
