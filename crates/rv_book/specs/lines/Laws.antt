-- What holds of the lines of accounts as such.
use Rattle.std.specs.Prelude.{◌≡◌, ◌≤◌, ℕ, List, Some, slice_get}
use Rattle.rv_text.specs.Members.{max_identifier}
use Rattle.rv_account.specs.declared.entry.Entry.{Entry}
use Rattle.rv_account.specs.Account.{Account}
use Rattle.rv_book.specs.Legal.{Legal}
use Rattle.rv_book.specs.Limits.{FitsAccount}
use Rattle.rv_book.specs.lines.Lines.{lines, printed_lines}
use Rattle.rv_book.specs.lines.Reading.{FirstBadLine, LineLimits, ReadsAccount, ReadsAccountUnder}
use Rattle.rv_book.specs.lines.Reading.{account_limits}
use Rattle.rv_book.specs.lines.Written.{FitPartners, FitsLines, FitsLinesUnder, account_lines}

-- what is written for the account is read as that account
abbrev pub IsReadBackUnder : LineLimits → Account → Type 0
IsReadBackUnder limits a = ReadsAccountUnder limits (lines (printed_lines (account_lines a))) a

abbrev pub IsReadBack : Account → Type 0
IsReadBack = IsReadBackUnder account_limits

-- a legal account within its limits, as each book's is, is read back
abbrev pub WrittenAccount : Type 0
WrittenAccount = (a : Account) → Legal a → FitsAccount a → IsReadBack a

-- any account within some limits of lines, of places up to 2^53 - 1, is read back under them, legal or not
abbrev pub WrittenLines : Type 0
WrittenLines = (limits : LineLimits) (a : Account) → limits.greatest_place ≤ max_identifier
    → FitsLinesUnder limits a → IsReadBackUnder limits a

-- a legal account within its limits is within those of lines, and so are the partners of each entry, so its
-- line is short
abbrev pub BookFitsLines : Type 0
BookFitsLines = (a : Account) → Legal a → FitsAccount a
    → FitsLines a × ((r : ℕ) (e : Entry) → slice_get a.entries r ≡ Some e → FitPartners e)

-- lines are read as one account at most
abbrev pub OneAccount : Type 0
OneAccount = (lines : List (List ℕ)) (a b : Account) → ReadsAccount lines a → ReadsAccount lines b → a ≡ b

-- lines that are read as an account have no bad one, and others have one first bad line at most
abbrev pub OneBadLine : Type 0
OneBadLine = (lines : List (List ℕ)) (m n : ℕ) → FirstBadLine lines m → FirstBadLine lines n → m ≡ n

abbrev pub NoBadLine : Type 0
NoBadLine = (lines : List (List ℕ)) (a : Account) (n : ℕ) → ReadsAccount lines a → ¬ FirstBadLine lines n
