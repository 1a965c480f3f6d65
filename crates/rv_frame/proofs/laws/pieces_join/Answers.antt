-- A cut goes on after an open end, and stays at a bad length.
use Rattle.rv_frame.proofs.Cuts.{pieces_join}
use Rattle.rv_frame.proofs.laws.pieces_join.Goals as goal

pub returns : goal.returns
returns c = pieces_join
