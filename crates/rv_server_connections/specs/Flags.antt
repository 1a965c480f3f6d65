-- A list of numbers, and for each number a flag that says whether it is listed.
use Rattle.std.specs.Prelude.{ℕ, ◌≡◌, ◌≢◌, ◌≤◌, Bool, List, [], ◌∷◌, false, true, suc}
use Rattle.std.specs.Prelude.{AllPairs, length, if◌then◌else◌, nat_eq, slice_index_or}

-- how many flags are set
abbrev pub flag_count : List Bool → ℕ
flag_count [] = 0
flag_count (true ∷ flags) = suc (flag_count flags)
flag_count (false ∷ flags) = flag_count flags

-- whether a number is listed
abbrev pub has_number : List ℕ → ℕ → Bool
has_number [] k = false
has_number (x ∷ numbers) k = if nat_eq x k then true else has_number numbers k

-- a number is listed exactly if its flag is set, once, and there is room for all that have a flag
pub record AreListed (flags : List Bool) (numbers : List ℕ) (room : ℕ) : Type 0 where
  pub each : (k : ℕ) → slice_index_or flags k false ≡ has_number numbers k
  pub once : AllPairs (λ one other. one ≢ other) numbers
  pub count : length numbers ≡ flag_count flags
  pub fits : length flags ≤ room
