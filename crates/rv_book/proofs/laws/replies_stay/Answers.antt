-- The law, which Staying proves.
use Rattle.rv_book.proofs.Staying.{replies_stay}
use Rattle.rv_book.proofs.laws.replies_stay.Goals as goal

pub returns : goal.returns
returns c = replies_stay
