-- The text that says how far a reading is.
use Rattle.std.specs.Prelude.{◌++◌, ◌-◌, ◌*◌, ◌/◌, ℕ, zero, suc, List, codes}
use Rattle.std.specs.Fmt.{decimal}

-- the seconds that the rest of the bytes takes, rounded down, if each byte takes as long as those before; 0
-- before the first one
abbrev pub seconds_left : ℕ → ℕ → ℕ → ℕ
seconds_left zero size seconds = 0
seconds_left (suc bytes) size seconds = (size - suc bytes) * seconds / suc bytes

-- the lines and the megabytes that were read
abbrev pub read_text : ℕ → ℕ → List ℕ
read_text lines bytes =
    decimal lines ++ (codes " lines, " ++ (decimal (bytes / 1000000) ++ codes " MB"))

-- and of how many megabytes in all, and how many seconds the rest takes
abbrev pub read_of_text : ℕ → ℕ → ℕ → ℕ → List ℕ
read_of_text lines bytes size seconds =
    decimal lines ++ (codes " lines, " ++ (decimal (bytes / 1000000) ++ (codes " of "
    ++ (decimal (size / 1000000) ++ (codes " MB, about " ++ (decimal (seconds_left bytes size seconds)
    ++ codes " s still"))))))
