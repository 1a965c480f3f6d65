-- The law, which Leaving proves.
use Rattle.rv_book.proofs.Leaving.{items_leave_in_order}
use Rattle.rv_book.proofs.laws.items_leave_in_order.Goals as goal

pub returns : goal.returns
returns c = items_leave_in_order
