-- Spans of time, as words write them.
use Rattle.std.specs.Prelude.{Bool, codes, List, not, ℕ, ◌*◌, ◌++◌, ◌≡◌, ◌≤◌}
use Rattle.std.specs.Char.{is_ascii_digit}
use Rattle.rv_text.specs.Number.{WritesNumber}
use Rattle.rv_words.specs.declared.duration.TimeUnit.{TimeUnit}
use Rattle.rv_words.specs.declared.duration.TimeUnit.TheVariants.{Hour, Millisecond, Minute, Second}

abbrev pub unit_word : TimeUnit → List ℕ
unit_word Millisecond = codes "ms"
unit_word Second = codes "s"
unit_word Minute = codes "m"
unit_word Hour = codes "h"

abbrev pub unit_millis : TimeUnit → ℕ
unit_millis Millisecond = 1
unit_millis Second = 1000
unit_millis Minute = 60000
unit_millis Hour = 3600000

-- the longest span: a day
abbrev pub max_millis : ℕ
max_millis = 86400000

-- the text is the digits of a number and the word of a unit, and this many milliseconds are that number of
-- units, and at most a day
pub record WritesDuration (text : List ℕ) (n : ℕ) : Type 0 where
  pub digits : List ℕ
  pub count : ℕ
  pub unit : TimeUnit
  pub parts : text ≡ digits ++ unit_word unit
  pub writes : WritesNumber digits count
  pub n_is : n ≡ count * unit_millis unit
  pub within : n ≤ max_millis

-- ---- for private clauses

abbrev pub is_no_digit : ℕ → Bool
is_no_digit byte = not (is_ascii_digit byte)
