-- What the book holds besides its account, and what must hold of it.
use Rattle.std.specs.Prelude.{◌≤◌}
use Rattle.rv_account.specs.Account.{Account}
use Rattle.rv_book.specs.reply_cache.Keeping.{AreKept}
use Rattle.rv_machine.specs.Machines.{state_in}
use Rattle.rv_account.specs.state.Agreement.{IsStateOf}
use Rattle.rv_account.specs.state.State.{State, waiting_count}
use Rattle.rv_book.specs.declared.state.BookState.{BookState}
use Rattle.rv_book.specs.Legal.{Legal}
use Rattle.rv_book.specs.Limits.{FitsAccount}

-- the account
abbrev pub account_of : BookState → Account
account_of book = book.account.account

-- the state that the machine holds
abbrev pub state_of_machine : BookState → State
state_of_machine book = state_in book.machine

-- the account is legal and within the limits, and the machine holds its state; for each client the reply of
-- its last request is kept; and there is room for an entry of each request that waits
pub record IsSound (book : BookState) : Type 0 where
  pub legal : Legal (account_of book)
  pub fits : FitsAccount (account_of book)
  pub stands : IsStateOf (account_of book) (state_of_machine book)
  pub kept : AreKept (account_of book).entries (state_of_machine book).clients book.kept.replies
  pub spare : waiting_count (state_of_machine book) ≤ book.account.room
