-- The entries that a table is kept in: each client with its session.
use Rattle.std.specs.Prelude.{◌≡◌, ◌≤◌, ℕ, List, length}
use Rattle.std.specs.Ordering.{nat_cmp}
use Rattle.std.specs.FinMap.{FinMap, from_entries, len}
use Rattle.std.specs.List.Sorted.{IsStrictlySortedBy}
use Rattle.std.specs.Map.{keys_of}

-- the map that the entries are
abbrev pub map_of : {V : Type 0} → List (ℕ × V) → FinMap nat_cmp V
map_of entries = from_entries entries

-- no client occurs twice, and there are at most so many
pub record IsTable {V : Type 0} (most : ℕ) (entries : List (ℕ × V)) : Type 0 where
  pub distinct : len (map_of entries) ≡ length entries
  pub room : length entries ≤ most

-- the clients are in the order of their numbers, and at most so many
pub record IsOrderedTable {V : Type 0} (most : ℕ) (entries : List (ℕ × V)) : Type 0 where
  pub ordered : IsStrictlySortedBy nat_cmp (keys_of entries)
  pub room : length entries ≤ most
