-- What left is freed by what the hub was told.
use Rattle.rv_engine.proofs.Stored.{left_is_stored}
use Rattle.rv_engine.proofs.laws.left_is_stored.Goals as goal

pub returns : goal.returns
returns c = left_is_stored
