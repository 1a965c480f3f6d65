-- How many places have a property.
use Rattle.std.specs.Prelude.{◌≡◌, ◌↔◌, ℕ, List, length, Contains}
use Rattle.std.specs.List.Sorted.{IsStrictlyIncreasing}

-- the places with a property, and no others, number n
pub record NumberOf (P : ℕ → Type 0) (n : ℕ) : Type 0 where
  pub places : List ℕ
  pub rising : IsStrictlyIncreasing places
  pub are : (r : ℕ) → Contains places r ↔ P r
  pub is : n ≡ length places
