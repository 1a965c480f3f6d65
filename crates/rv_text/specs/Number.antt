-- Numbers that are written in decimal digits.
use Rattle.std.specs.Prelude.{length, List, ℕ, ◌≡◌, ◌≤◌, [], ◌∷◌}
use Rattle.std.specs.Int.{IsInRange}
use Rattle.std.specs.List.{All}
use Rattle.std.specs.Str.Parse.{digits_value}
use Rattle.rv_text.specs.Limits.{FitsIdentifier}

-- 1 to 19 ASCII digits, '0' (48) to '9' (57), and nothing else
pub record IsDigits (text : List ℕ) : Type 0 where
  pub some : 1 ≤ length text
  pub within : length text ≤ 19
  pub are_digits : All (IsInRange 48 57) text

-- the number that the digits write in decimal
abbrev pub value_of_digits : List ℕ → ℕ
value_of_digits = digits_value 10

-- the text is a number's digits
abbrev pub WritesNumber : List ℕ → ℕ → Type 0
WritesNumber text n = IsDigits text × (n ≡ value_of_digits text)

-- the text is the digits of a number within these limits
abbrev pub WritesBetween : ℕ → ℕ → List ℕ → ℕ → Type 0
WritesBetween least most text n = WritesNumber text n × (least ≤ n) × (n ≤ most)

-- the text is an identifier's digits
abbrev pub WritesIdentifier : List ℕ → ℕ → Type 0
WritesIdentifier text n = WritesNumber text n × FitsIdentifier n

-- the text is the number's digits, and a zero (48) begins it only if it stands alone
pub record WritesPlainly (text : List ℕ) (n : ℕ) : Type 0 where
  pub writes : WritesNumber text n
  pub no_leading_zero : (rest : List ℕ) → text ≡ 48 ∷ rest → rest ≡ []

-- the same of a number that is at most this
abbrev pub WritesUpTo : ℕ → List ℕ → ℕ → Type 0
WritesUpTo most text n = WritesPlainly text n × (n ≤ most)
