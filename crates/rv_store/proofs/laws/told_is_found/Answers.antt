-- What was told is found.
use Rattle.rv_store.proofs.Told.{told_is_found}
use Rattle.rv_store.proofs.laws.told_is_found.Goals as goal

pub returns : goal.returns
returns c = told_is_found
