-- The lines of an input, and texts printed as lines.
use Rattle.std.specs.Prelude.{ℕ, List, [], ◌∷◌, ◌++◌, ◌==◌, ◌≡◌, ◌≢◌, ◌⊎◌, if◌then◌else◌}
use Rattle.std.specs.List.{All, onto_first}
-- Re-exported: the text is short.
pub use Rattle.rv_book.specs.lines.EntryText.{IsShort}

-- the bytes before each LF (10), and those after the last LF if there are any
abbrev pub lines : List ℕ → List (List ℕ)
lines [] = []
lines (byte ∷ bytes) = if byte == 10 then [] ∷ lines bytes else onto_first byte (lines bytes)

-- the bytes are this line, which has no LF in it, LF (10) and the rest; or the line alone, and no rest
pub record BeginsWithLine (bytes line rest : List ℕ) : Type 0 where
  pub no_lf : All (λ byte. byte ≢ 10) line
  pub parts : (bytes ≡ line ++ 10 ∷ rest) ⊎ ((bytes ≡ line) × (rest ≡ []))

-- each text, and LF (10) after it
abbrev pub printed_lines : List (List ℕ) → List ℕ
printed_lines [] = []
printed_lines (text ∷ texts) = text ++ 10 ∷ printed_lines texts
