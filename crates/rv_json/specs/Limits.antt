-- The limits of items.
use Rattle.std.specs.Prelude.{ℕ, ◌≤◌, List, length, IsUtf8}
use Rattle.std.specs.List.{All}

-- an item's bytes: at most 512, and UTF-8
unfoldable pub FitsItem : List ℕ → Type 0
FitsItem item = (length item ≤ 512) × IsUtf8 item

-- what a drain took: at most 16 items
abbrev pub FitsItems : List (List ℕ) → Type 0
FitsItems items = (length items ≤ 16) × All FitsItem items
