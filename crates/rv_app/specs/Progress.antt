-- How far a reading is, as it is reported now and then.
use Rattle.std.specs.Prelude.{◌≢◌, ◌≤◌, ℕ, None, Option, Some}

-- it is reported again: nothing was reported yet, or another number of entries was, a minute ago or more
abbrev pub IsProgressDue : Option ℕ → ℕ → ℕ → Type 0
IsProgressDue None entries seconds = Unit {0}
IsProgressDue (Some told) entries seconds = (told ≢ entries) × (60 ≤ seconds)
