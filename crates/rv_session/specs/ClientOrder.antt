-- Clients in the order of their numbers.
use Rattle.std.specs.Prelude.{◌≡◌, ◌<◌, ℕ, Bool, true, List, Option, Some, None, find, nat_lt, slice_get}
use Rattle.std.specs.Ordering.{nat_cmp}
use Rattle.std.specs.FinMap.{FinMap, entries}
use Rattle.rv_session.specs.declared.client.ClientState.{ClientState}

-- in the order of their numbers, each once
abbrev pub ClientsRise : List (ℕ × ClientState) → Type 0
ClientsRise clients = (i j : ℕ) (one other : ℕ × ClientState) → i < j → slice_get clients i ≡ Some one
    → slice_get clients j ≡ Some other → one.0 < other.0

-- whether a number is above another; each is above none
abbrev pub is_above : Option ℕ → ℕ → Bool
is_above None client = true
is_above (Some other) client = nat_lt other client

-- the client of the least number above another, with its state
abbrev pub next_client : FinMap nat_cmp ClientState → Option ℕ → Option (ℕ × ClientState)
next_client clients after = find (λ e. is_above after e.0) (entries clients)
