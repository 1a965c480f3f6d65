-- The frames before and after the one that was taken are the same.
use Rattle.rv_frame.proofs.Cuts.{taken_is_cut}
use Rattle.rv_frame.proofs.laws.taken_is_cut.Goals as goal

pub returns : goal.returns
returns c = taken_is_cut
