-- The book as a desk: what its verdicts show, how many entries it has, and how a message changes it.
use Rattle.std.specs.Prelude.{ℕ, length}
use Rattle.rv_text.specs.declared.message.Message.{Message}
use Rattle.rv_account.specs.Account.{Account}
use Rattle.rv_book.specs.Steps.{Next}
use Rattle.rv_book.specs.Verdicts.{VerdictView}
use Rattle.rv_server.specs.locked.Stamps.{Stamped}

-- what a verdict shows, as a stamp
abbrev pub shown_by : VerdictView → Stamped
shown_by verdict =
    record { asked = verdict.asked; said = verdict.said; before = verdict.before; length = verdict.length }

-- how many entries the book has
abbrev pub entry_count : Account → ℕ
entry_count account = length account.entries

-- a message that came at a moment leads from one account to the other, with this verdict
abbrev pub IsStep : Account → ℕ → Message → Account → VerdictView → Type 0
IsStep old now message new verdict = Next old now message new verdict.said
