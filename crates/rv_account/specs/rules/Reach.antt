-- How far a machine counts, past the limits of any step, and the limits that it can be handed.
use Rattle.std.specs.Prelude.{◌≤◌, ℕ, Option, None}
use Rattle.rv_account.specs.rules.StepLimits.{StepLimits}

-- how far a machine counts entries and those that wait
abbrev pub most_counted : ℕ
most_counted = 18014398509481984

-- the most clients that a machine knows, whatever the limits of its steps
abbrev pub most_known : ℕ
most_known = 100000

-- limits, by their numbers
abbrev pub step_limits : ℕ → ℕ → Option ℕ → StepLimits
step_limits entries clients open_places =
    record { entries = entries; clients = clients; open_places = open_places }

-- limits that a machine can be handed: those of a step, and the widest
pub record AreWithin (limits : StepLimits) : Type 0 where
  pub entries : limits.entries ≤ most_counted
  pub clients : limits.clients ≤ most_known

-- past all that a state to resume from has
abbrev pub widest : StepLimits
widest = record { entries = most_counted; clients = most_known; open_places = None }
