-- The places with a property as a list, the lowest first.
use Rattle.std.specs.Prelude.{◌≡◌, ◌<◌, ℕ, List, Some, slice_get}
use Rattle.rv_text.specs.declared.call.Side.{Side}
use Rattle.rv_account.specs.declared.entry.Entry.{Entry}
use Rattle.rv_account.specs.rules.Waiting.{OpenAt}

-- the places are those with a property, the lowest first
pub record IsLineOf (P : ℕ → Type 0) (places : List ℕ) : Type 0 where
  pub are : (i r : ℕ) → slice_get places i ≡ Some r → P r
  pub each : (r : ℕ) → P r → (i : ℕ) × (slice_get places i ≡ Some r)
  pub rising : (i j p q : ℕ) → i < j → slice_get places i ≡ Some p → slice_get places j ≡ Some q → p < q

-- the places are those of a side's open arrivals, the oldest first
abbrev pub IsLine : List Entry → Side → List ℕ → Type 0
IsLine entries side places = IsLineOf (OpenAt entries side) places
