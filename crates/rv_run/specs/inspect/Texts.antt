-- For private clauses: texts of several lines, with LF (10) between each two.
use Rattle.std.specs.Prelude.{◌≡◌, ◌∷◌, ◌++◌, [], ℕ, List, Some, codes, slice_get}
use Rattle.rv_account.specs.Account.{Account}
use Rattle.rv_replies.specs.findings.Tallies.{words_of}
use Rattle.rv_replies.specs.declared.findings.Finding.{Finding}
use Rattle.rv_replies.specs.declared.findings.Finding.TheVariants.{Impossible, Kept, KeptUnseen, NoRecord}
use Rattle.rv_replies.specs.declared.findings.Finding.TheVariants.{NoRequest, OtherCall, OtherEpoch}
use Rattle.rv_replies.specs.declared.findings.Finding.TheVariants.{OtherReply, Waiting}
use Rattle.rv_book.specs.lines.Lines.{printed_lines}
use Rattle.rv_replies.specs.Standing.{HasNoted}
use Rattle.rv_replies.specs.declared.records.Line.{Line}
use Rattle.rv_replies.specs.declared.records.Records.{Records}
use Rattle.rv_run.specs.inspect.Lines.{count}
use Rattle.rv_run.specs.inspect.Report.{SaysLine}
use Rattle.std.specs.Fmt.{decimal}

-- the text is these lines without the last LF
abbrev pub IsOneText : List (List ℕ) → List ℕ → Type 0
IsOneText lines text = text ++ 10 ∷ [] ≡ printed_lines lines

-- the text is what is printed of the line of a record with an index, by the finding on it
pub record IsLineText (r : Records) (index : ℕ) (finding : Finding) (text : List ℕ) : Type 0 where
  pub lines : List (List ℕ)
  pub piece : IsOneText lines text
  pub says : (a : Account) (own : Line) → HasNoted r a → slice_get r.lines.items index ≡ Some own
      → SaysLine a r.lines.items index own finding lines

-- the words of the two findings that are kept, and how many lines have each
abbrev pub kept_counts : List Finding → List ℕ
kept_counts findings =
    codes "kept " ++ (count findings Kept ++ (10 ∷ words_of KeptUnseen ++ 32 ∷ count findings KeptUnseen))

-- those of the next three
abbrev pub first_counts : List Finding → List ℕ
first_counts findings =
    codes "another reply " ++ (count findings OtherReply
    ++ (codes "\nanother call " ++ (count findings OtherCall
    ++ (codes "\nno such request " ++ count findings NoRequest))))

-- those of the three after them
abbrev pub next_counts : List Finding → List ℕ
next_counts findings =
    codes "still waiting " ++ (count findings Waiting
    ++ (codes "\nanother epoch " ++ (count findings OtherEpoch
    ++ (10 ∷ words_of Impossible ++ 32 ∷ count findings Impossible))))

-- that of the last, and how many lines differ from the first one of their key, and repeat it
abbrev pub last_counts : List Finding → ℕ → ℕ → List ℕ
last_counts findings differing repeating =
    codes "no record " ++ (count findings NoRecord
    ++ (codes "\ndiffering " ++ (decimal differing ++ (codes "\nrepeating " ++ decimal repeating))))
