-- The law, which Stamping proves.
use Rattle.rv_book.proofs.Stamping.{verdicts_stay}
use Rattle.rv_book.proofs.laws.verdicts_stay.Goals as goal

pub returns : goal.returns
returns c = verdicts_stay
