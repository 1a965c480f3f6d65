-- The bytes of a line.
use Rattle.std.specs.Prelude.{List, ℕ, None, Option, Some, length, take, [], ◌∷◌, ◌++◌, ◌+◌, ◌<◌, ◌≤◌, ◌≡◌}
use Rattle.std.specs.Str.{IsCharBoundary}
use Rattle.httpdate.specs.Date.{date_text}
use Rattle.httpdate.specs.declared.date.HttpDate.{HttpDate}

-- what stands in front of a text: its date and a space (32), if it has one
abbrev pub stamp_bytes : Option HttpDate → List ℕ
stamp_bytes None = []
stamp_bytes (Some date) = date_text date ++ 32 ∷ []

-- the text and what stands in front of it, and LF (10); the text is cut after the last whole character that
-- leaves both with at most 4,095 bytes
pub record IsLogLine (at : Option HttpDate) (text bytes : List ℕ) : Type 0 where
  pub count : ℕ
  pub bytes_are : bytes ≡ stamp_bytes at ++ take count text ++ 10 ∷ []
  pub whole : IsCharBoundary text count
  pub short : length (stamp_bytes at) + count ≤ 4095
  pub longest : (other : ℕ) → count < other → length (stamp_bytes at) + other ≤ 4095
      → ¬ IsCharBoundary text other
