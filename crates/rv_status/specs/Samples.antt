-- Samples of the last ten minutes.
use Rattle.std.specs.Prelude.{◌≡◌, ℕ, List, [], ◌∷◌, ◌++◌, ◌+◌, ◌-◌, ◌≤◌, Option, None, Some, drop, length}
use Rattle.std.specs.Prelude.{nat_lt, slice_get, if◌then◌else◌}
use Rattle.rv_status.specs.declared.status.StatusSample.{StatusSample}

-- ten seconds have passed since the last sample, if there is one
abbrev pub IsLater : Option StatusSample → ℕ → Type 0
IsLater None second = Unit {0}
IsLater (Some last) second = last.second + 10 ≤ second

abbrev pub IsSampleDue : List StatusSample → ℕ → Type 0
IsSampleDue history second = IsLater (slice_get history (length history - 1)) second

-- all of them, except the oldest if there are more than 61
abbrev pub kept_samples : List StatusSample → List StatusSample
kept_samples all = if nat_lt 61 (length all) then drop 1 all else all

-- a sample that is due is added after the others; one that isn't changes nothing
pub record Samples (old : List StatusSample) (sample : StatusSample) (new : List StatusSample) : Type 0 where
  pub due : IsSampleDue old sample.second → new ≡ kept_samples (old ++ sample ∷ [])
  pub early : ¬ IsSampleDue old sample.second → new ≡ old
