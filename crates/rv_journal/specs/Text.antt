-- The lines that a file stands for: those before its first zero.
use Rattle.std.specs.Prelude.{◌≡◌, ℕ, ◌<◌, ◌≤◌, ◌==◌, List, length, [], ◌∷◌, ◌++◌, take, slice_index}
use Rattle.std.specs.Prelude.{if◌then◌else◌}
use Rattle.std.proofs.Common.{zero, suc}
use Rattle.std.specs.List.{list_any}

-- the bytes before the first zero
abbrev pub before_zero : List ℕ → List ℕ
before_zero [] = []
before_zero (zero ∷ rest) = []
before_zero (suc byte ∷ rest) = suc byte ∷ before_zero rest

-- a zero stands in it
abbrev pub HasZero : List ℕ → Type 0
HasZero file = length (before_zero file) < length file

-- a text up to its last LF, with it
abbrev pub whole_lines : List ℕ → List ℕ
whole_lines [] = []
whole_lines (byte ∷ rest) = if list_any (λ b. b == 10) (byte ∷ rest) then byte ∷ whole_lines rest else []

-- whole lines, and nothing after them
abbrev pub IsLines : List ℕ → Type 0
IsLines text = whole_lines text ≡ text

-- the lines that a file stands for
abbrev pub stored_lines : List ℕ → List ℕ
stored_lines file = whole_lines (before_zero file)

-- zeros from this offset on, as far as the file goes
abbrev pub IsBlankFrom : ℕ → List ℕ → Type 0
IsBlankFrom at file = (i : ℕ) → at ≤ i → slice_index file i ≡ 0

-- before its first zero the file has this text, and then a front of the piece
abbrev pub HasFront : List ℕ → List ℕ → List ℕ → Type 0
HasFront text piece file = (n : ℕ) × (before_zero file ≡ text ++ take n piece)
