-- Which requests are to be ended, and when to look for no more.
use Rattle.std.specs.Prelude.{ℕ, ◌≡◌, ◌==◌, ◌&&◌, ◌+◌, ◌*◌, ◌/◌, ◌<◌, ◌⊎◌, Bool, false, List, None, not}
use Rattle.std.specs.Prelude.{Option, Some}
use Rattle.std.specs.Prelude.{nat_le}
use Rattle.std.specs.List.{list_any}
use Rattle.rv_status.specs.declared.status.WaitingRow.{WaitingRow}

-- both rows are of the same request
abbrev pub is_same : WaitingRow → WaitingRow → Bool
is_same one other =
    (one.client == other.client) && (one.incarnation == other.incarnation) && (one.number == other.number)

-- the row's request is among these
abbrev pub was_tried : List WaitingRow → WaitingRow → Bool
was_tried tried row = list_any (λ other. is_same other row) tried

-- at this many seconds, at least this many milliseconds have passed since this moment, if there is one
abbrev pub is_old_at : ℕ → ℕ → Option ℕ → Bool
is_old_at uptime older None = false
is_old_at uptime older (Some since) = nat_le (since + older) (uptime * 1000)

-- it has had no connection for so many milliseconds

abbrev pub is_old : ℕ → ℕ → WaitingRow → Bool
is_old uptime older row = is_old_at uptime older row.unheard

-- it has been so for so long, and wasn't tried
abbrev pub is_due : ℕ → ℕ → List WaitingRow → WaitingRow → Bool
is_due uptime older tried row = is_old uptime older row && not (was_tried tried row)

-- a look found nothing to end; and nothing was ever tried, or the looks that found nothing are more than the
-- clients divided by 2,560, rounded down, and one
pub record IsLookedThrough (tried in_vain clients : ℕ) : Type 0 where
  pub some : 0 < in_vain
  pub all : (tried ≡ 0) ⊎ (clients / 2560 + 1 < in_vain)
