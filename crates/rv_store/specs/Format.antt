-- The format that the first line of a journal names.
use Rattle.std.specs.Prelude.{◌≡◌, ◌≢◌, ◌++◌, ◌∷◌, [], ℕ, List, codes}
use Rattle.std.specs.List.{All}
use Rattle.rv_text.specs.Number.{WritesIdentifier}
use Rattle.rv_book.specs.lines.Written.{head_text}
use Rattle.rv_store.specs.declared.reader.RecoveryFault.{RecoveryFault}
use Rattle.rv_store.specs.declared.reader.RecoveryFault.TheVariants as fault

-- what a journal begins with, before the lines of its account
abbrev pub format : List ℕ
format = codes "journal 1 "

-- `epoch E opened T` after that, with its LF
abbrev pub first_text : ℕ → ℕ → List ℕ
first_text epoch opened = format ++ head_text epoch opened ++ 10 ∷ []

-- the journal of an account with these lines
abbrev pub IsJournalOf : List ℕ → List ℕ → Type 0
IsJournalOf text account = text ≡ format ++ account

-- The text begins as a journal of any version does: a word, digits, and a space (32) after each.
pub record CutsFormat (text digits rest : List ℕ) : Type 0 where
  pub parts : text ≡ codes "journal" ++ 32 ∷ digits ++ 32 ∷ rest
  pub no_space : All (λ byte. byte ≢ 32) digits

-- as one of this version does
abbrev pub IsVersionIn : List ℕ → ℕ → Type 0
IsVersionIn text version = (digits : List ℕ) × (rest : List ℕ) × CutsFormat text digits rest
    × WritesIdentifier digits version

-- A text that begins with no format.
pub record HasNoFormat (text : List ℕ) : Type 0 where
  pub some : text ≢ []
  pub this : (account : List ℕ) → IsJournalOf text account → ⊥
  pub other : (version : ℕ) → IsVersionIn text version → version ≢ 1 → ⊥

-- why it isn't one of this version
abbrev pub IsFormatFault : List ℕ → RecoveryFault → Type 0
IsFormatFault text (fault.OtherVersion version) = IsVersionIn text version × (version ≢ 1)
IsFormatFault text fault.NoJournal = text ≢ [] → HasNoFormat text
IsFormatFault text fault.NoLines = ⊥
IsFormatFault text (fault.OtherEpoch other) = ⊥
IsFormatFault text (fault.NoAccount found) = ⊥
IsFormatFault text fault.TooFew = ⊥
IsFormatFault text fault.NoMemory = ⊥
