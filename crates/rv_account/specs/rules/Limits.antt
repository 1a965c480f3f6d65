-- The limits of an account.
use Rattle.std.specs.Prelude.{◌≤◌, ◌+◌, ℕ, length}
use Rattle.rv_text.specs.Limits.{FitsIdentifier}
use Rattle.rv_account.specs.Account.{Account}
use Rattle.rv_account.specs.rules.Counting.{NumberOf}
use Rattle.rv_account.specs.rules.Sessions.{SaidHello}
pub use Rattle.rv_account.specs.Limits.{FitEntries, FitsAct, FitsEntry}
use Rattle.rv_account.specs.Limits.{max_moment}
use Rattle.rv_account.specs.rules.Steps.{max_clients, max_entries}
use Rattle.rv_account.specs.rules.Waiting.{Waiting}

-- the account's numbers, moments and items are within their limits, its entries and waiting requests number
-- at most 100,000, and the clients that said a hello at most 1,024
pub record FitsAccount (a : Account) : Type 0 where
  pub epoch : FitsIdentifier a.epoch
  pub opened : a.opened ≤ max_moment
  pub entries : FitEntries a.entries
  pub room : (waiting : ℕ) → NumberOf (Waiting a.entries) waiting → length a.entries + waiting ≤ max_entries
  pub clients : (clients : ℕ) → NumberOf (SaidHello a.entries) clients → clients ≤ max_clients
