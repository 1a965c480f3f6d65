-- What a reader of a journal has read that passes over its first lines: for private clauses and proofs.
use Rattle.std.specs.Prelude.{◌≡◌, ◌⊎◌, ◌<◌, ◌+◌, ◌++◌, [], ℕ, Bool, true, false, List, length}
use Rattle.rv_account.specs.state.resume.Resuming.{CanResume}
use Rattle.rv_book.specs.lines.Lines.{lines}
use Rattle.rv_journal.specs.Text.{IsLines}
use Rattle.rv_machine.specs.Machines.{state_in}
use Rattle.rv_machine.specs.declared.machine.Machine.{Machine}
use Rattle.rv_store.specs.Format.{IsJournalOf}
use Rattle.rv_store.specs.Reading.{IsFaultOfFront, LacksAccount, MakesMachine, ReadsTextOn, RefusesTextOn}
use Rattle.rv_store.specs.declared.reader.ReaderParts.{ReaderParts}
use Rattle.rv_store.specs.declared.reader.RecoveryFault.{RecoveryFault}
use Rattle.rv_store.specs.declared.reader.RecoveryFault.TheVariants as fault
use Rattle.rv_store.specs.declared.resuming.ResumingReader.{ResumingReader}

-- so many lines, and some more
pub record PassesLines (count : ℕ) (text rest : List ℕ) : Type 0 where
  pub passed : List ℕ
  pub parts : text ≡ passed ++ rest
  pub whole : IsLines passed
  pub rest_whole : IsLines rest
  pub counted : length (lines passed) ≡ count

-- of a count of lines, all but those that are left to be passed over; nothing is behind them until then
pub record PassesSome (count left : ℕ) (text rest : List ℕ) : Type 0 where
  pub number : ℕ
  pub passes : PassesLines number text rest
  pub counted : number + left ≡ count
  pub none : 0 < left → rest ≡ []

-- the part of a text that is the account's, once it has begun
abbrev pub IsPartOf : Bool → List ℕ → List ℕ → Type 0
IsPartOf false text account = (text ≡ []) × (account ≡ [])
IsPartOf true text account = IsJournalOf text account

-- the reader has passed over lines of the account, and handed what is after them to one that was so at first
pub record HasPassedOver (count : ℕ) (first : ReaderParts) (text : List ℕ) (reader : ResumingReader) : Type 0
  where
    pub account : List ℕ
    pub is : IsPartOf reader.begun text account
    pub rest : List ℕ
    pub passes : PassesSome count reader.left account rest
    pub reads : ReadsTextOn first rest reader.reader

-- more lines lead from the first state to the second
abbrev pub ResumesOn : ResumingReader → List ℕ → ResumingReader → Type 0
ResumesOn old text new = (count : ℕ) (first : ReaderParts) (before : List ℕ) → IsLines before
    → HasPassedOver count first before old → HasPassedOver count first (before ++ text) new

-- a journal's lines after so many of the account's, as such a reader takes or refuses them
pub record AreAfter (count : ℕ) (text : List ℕ) (P : List ℕ → Type 0) : Type 0 where
  pub account : List ℕ
  pub is : IsJournalOf text account
  pub rest : List ℕ
  pub passes : PassesLines count account rest
  pub holds : P rest

-- the format of the journal is another, or what is after the lines that are passed over is refused
abbrev pub RefusesResumed : ℕ → ReaderParts → List ℕ → RecoveryFault → Type 0
RefusesResumed count first text why = IsFaultOfFront text why
    ⊎ AreAfter count text (λ rest. RefusesTextOn first rest why)

abbrev pub RefusesResuming : ResumingReader → List ℕ → RecoveryFault → Type 0
RefusesResuming old text why = (count : ℕ) (first : ReaderParts) (before : List ℕ) → IsLines before
    → HasPassedOver count first before old → RefusesResumed count first (before ++ text) why

-- a reader that has read what is after those lines, and no more comes
pub record EndsAt (first : ReaderParts) (P : ReaderParts → Type 0) (rest : List ℕ) : Type 0 where
  pub last : ReaderParts
  pub reads : ReadsTextOn first rest last
  pub holds : P last

abbrev pub MakesResumed : ResumingReader → Machine → Type 0
MakesResumed reader machine = CanResume (state_in machine) × ((count : ℕ) (first : ReaderParts)
    (text : List ℕ) → IsLines text → HasPassedOver count first text reader
    → AreAfter count text (EndsAt first (λ last. MakesMachine last machine)))

-- the journal of an account of fewer lines
abbrev pub IsTooShort : ℕ → List ℕ → Type 0
IsTooShort count text = (account : List ℕ) → IsJournalOf text account → length (lines account) < count

-- its lines are fewer than those that are passed over, or what is after them is no account's
abbrev pub LacksResumed : ResumingReader → RecoveryFault → Type 0
LacksResumed reader why = (count : ℕ) (first : ReaderParts) (text : List ℕ) → IsLines text
    → HasPassedOver count first text reader → ((why ≡ fault.TooFew) × IsTooShort count text)
    ⊎ AreAfter count text (EndsAt first (λ last. LacksAccount last why))
