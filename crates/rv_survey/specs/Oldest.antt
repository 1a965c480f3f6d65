-- The oldest of all requests, with one row for each client.
use Rattle.std.specs.Prelude.{ℕ, ◌==◌, Bool, List, None, Option, Some, filter, insert, length, nat_lt, not}
use Rattle.std.specs.Prelude.{position, take, unwrap_or}
use Rattle.rv_status.specs.declared.status.WaitingRow.{WaitingRow}

-- the row's request is later than this
abbrev pub is_later : ℕ → WaitingRow → Bool
is_later since row = nat_lt since row.since

-- the rows with this one in front of the first that is later, or after all; the first 100 are kept
abbrev pub with_row : WaitingRow → List WaitingRow → List WaitingRow
with_row row rows =
    take 100 (insert rows (unwrap_or (position (is_later row.since) rows) (length rows)) row)

-- the rows of all other clients
abbrev pub without_client : ℕ → List WaitingRow → List WaitingRow
without_client client rows = filter (λ row. not (row.client == client)) rows

-- a client has this row and no other
abbrev pub renewed : ℕ → Option WaitingRow → List WaitingRow → List WaitingRow
renewed client None rows = without_client client rows
renewed client (Some row) rows = with_row row (without_client client rows)
