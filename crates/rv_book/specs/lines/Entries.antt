-- How far the lines after the first are read: for private clauses and proofs.
use Rattle.std.specs.Prelude.{◌≤◌, ◌+◌, ◌∷◌, ◌++◌, ◌≡◌, ◌⊎◌, ℕ, List, length}
use Rattle.rv_account.specs.declared.entry.Entry.{Entry}
use Rattle.rv_book.specs.lines.Reading.{LineLimits, ReadsEntriesUnder, ReadsEntryUpTo}

-- after so many entries the line is not read as another one
abbrev pub IsNoNext : LineLimits → ℕ → List ℕ → Type 0
IsNoNext limits before line =
    (limits.most_entries ≤ before) ⊎ ((e : Entry) → ¬ ReadsEntryUpTo limits.greatest_place line e)

-- the lines before this one are read as entries, and this one is not read as another; it is the line of this
-- number if one line stands before all of them
pub record StopsAtLine (limits : LineLimits) (lines : List (List ℕ)) (n : ℕ) : Type 0 where
  pub front : List (List ℕ)
  pub line : List ℕ
  pub rest : List (List ℕ)
  pub entries : List Entry
  pub parts : lines ≡ front ++ line ∷ rest
  pub read : ReadsEntriesUnder limits front entries
  pub stops : IsNoNext limits (length front) line
  pub counted : n ≡ length front + 2
