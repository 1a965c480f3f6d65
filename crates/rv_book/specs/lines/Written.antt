-- The lines that are written for an account.
use Rattle.std.specs.Prelude.{◌≤◌, ◌∷◌, ◌≡◌, ℕ, List, Some, length, map, slice_get}
use Rattle.rv_text.specs.Limits.{FitsIdentifier}
use Rattle.rv_account.specs.declared.entry.Entry.{Entry}
use Rattle.rv_account.specs.Account.{Account}
use Rattle.rv_book.specs.Limits.{FitEntries}
use Rattle.rv_book.specs.Steps.{max_moment}
use Rattle.rv_book.specs.lines.Reading.{LineLimits, account_limits}
-- Re-exported: the line of an entry, and the first line.
pub use Rattle.rv_book.specs.lines.EntryText.{FitPartners, FitPlaces, FitPlacesUpTo, entry_text, head_text}
pub use Rattle.rv_book.specs.lines.EntryText.{max_partner, max_partners, message_in, partners_text}
pub use Rattle.rv_book.specs.lines.EntryText.{places_text, said_text}

-- the line of the epoch and the opening moment, and a line for each entry
abbrev pub account_lines : Account → List (List ℕ)
account_lines a = head_text a.epoch a.opened ∷ map entry_text a.entries

-- ---- what can be written, and read again

-- the account's numbers, moments and items are within their limits, and its partners' places and how many
-- entries it has within those of the lines; it needn't be legal
pub record FitsLinesUnder (limits : LineLimits) (a : Account) : Type 0 where
  pub epoch : FitsIdentifier a.epoch
  pub opened : a.opened ≤ max_moment
  pub entries : FitEntries a.entries
  pub places : (r : ℕ) (e : Entry) → slice_get a.entries r ≡ Some e → FitPlacesUpTo limits.greatest_place e
  pub few : length a.entries ≤ limits.most_entries

-- places up to 99,999, and at most 100,000 entries
abbrev pub FitsLines : Account → Type 0
FitsLines = FitsLinesUnder account_limits
