-- A book's account is legal.
use Rattle.rv_book.proofs.book.Book.account.Goals as goal

pub returns-clause-legal : goal.returns-clause-legal
returns-clause-legal c = rw (← c.self.view_is) c.self.invariant.legal
