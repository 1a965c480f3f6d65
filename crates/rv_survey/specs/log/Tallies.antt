-- How often something came, which is reported at most once a minute.
use Rattle.std.specs.Prelude.{ℕ, None, Option, Some, ◌+◌, ◌<◌, ◌≤◌}
use Rattle.rv_survey.specs.declared.log.tally.FaultTally.{FaultTally}

-- the greatest count
abbrev pub greatest_count : ℕ
greatest_count = 18446744073709551615

abbrev pub nothing_counted : FaultTally
nothing_counted = record { count = 0; told = None }

-- nothing came since it was reported at this moment
abbrev pub told_at : ℕ → FaultTally
told_at moment = record { count = 0; told = Some moment }

-- it wasn't reported in the 60,000 milliseconds before this moment
abbrev pub IsUntold : Option ℕ → ℕ → Type 0
IsUntold None now = Unit {0}
IsUntold (Some told) now = told + 60000 ≤ now

-- it came, and wasn't reported in the minute before this moment
pub record IsToBeTold (tally : FaultTally) (now : ℕ) : Type 0 where
  pub came : 0 < tally.count
  pub is_untold : IsUntold tally.told now
