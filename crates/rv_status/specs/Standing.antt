-- The frames of a connection that have no answer yet.
use Rattle.std.specs.Prelude.{ℕ, ◌≡◌, List, [], ◌∷◌, length, max}
use Rattle.rv_status.specs.declared.standing.FrameLine.{FrameLine}

-- the first of them has stood first since its last byte was read or the answer before it left, whichever is
-- later
abbrev pub StandsSince : List ℕ → ℕ → ℕ → Type 0
StandsSince [] left since = Unit {0}
StandsSince (first ∷ others) left since = since ≡ max first left

-- when the last byte of each was read, in order, and when the answer before the first of them left
pub record LineStands (read : List ℕ) (left : ℕ) (line : FrameLine) : Type 0 where
  pub count : line.count ≡ length read
  pub since : StandsSince read left line.since
