-- Which lines are read as which account, and which line is the first bad one.
use Rattle.std.specs.Prelude.{◌≤◌, ◌-◌, ◌∷◌, ◌++◌, ◌≡◌, ◌≢◌, ◌⊎◌}
use Rattle.std.specs.Prelude.{ℕ, List, [], Option, None, Some, codes, length, take}
use Rattle.std.specs.List.{All, AllZip}
use Rattle.rv_text.specs.declared.message.Message.{Message}
use Rattle.rv_text.specs.Bodies.{IsMessageBody}
use Rattle.rv_text.specs.Limits.{FitsIdentifier}
use Rattle.rv_account.specs.declared.entry.Act.{Act}
use Rattle.rv_account.specs.declared.entry.Entry.{Entry}
use Rattle.rv_account.specs.Account.{Account}
use Rattle.rv_book.specs.Steps.{max_entries, max_moment}
use Rattle.rv_text.specs.Number.{WritesPlainly, WritesUpTo}
use Rattle.rv_book.specs.lines.EntryText.{max_partner, message_in}

-- ---- one line

-- `epoch E opened T`
pub record ReadsHead (line : List ℕ) (epoch opened : ℕ) : Type 0 where
  pub epoch_field : List ℕ
  pub opened_field : List ℕ
  pub parts : line ≡ codes "epoch " ++ epoch_field ++ codes " opened " ++ opened_field
  pub says_epoch : WritesPlainly epoch_field epoch
  pub epoch_fits : FitsIdentifier epoch
  pub says_opened : WritesUpTo max_moment opened_field opened

-- a place and those after it, each at most this, with a comma (44) between each two
abbrev pub SaysPlacesUpTo : ℕ → List ℕ → ℕ → List ℕ → Type 0
SaysPlacesUpTo most field place [] = WritesUpTo most field place
SaysPlacesUpTo most field place (next ∷ more) =
    (first : List ℕ) × (rest : List ℕ) × (field ≡ first ++ 44 ∷ rest)
    × WritesUpTo most first place × SaysPlacesUpTo most rest next more

-- places, one at least
abbrev pub SaysSomePlacesUpTo : ℕ → List ℕ → List ℕ → Type 0
SaysSomePlacesUpTo most field [] = ⊥
SaysSomePlacesUpTo most field (place ∷ more) = SaysPlacesUpTo most field place more

-- the partners' places, or `-`
abbrev pub SaysPartnersUpTo : ℕ → List ℕ → List ℕ → Type 0
SaysPartnersUpTo most field [] = field ≡ codes "-"
SaysPartnersUpTo most field (place ∷ more) = SaysPlacesUpTo most field place more

-- any body of the message, or `tick`
abbrev pub SaysMessage : List ℕ → Option Message → Type 0
SaysMessage field None = field ≡ codes "tick"
SaysMessage field (Some m) = IsMessageBody field m

abbrev pub SaysAct : List ℕ → Act → Type 0
SaysAct field act = SaysMessage field (message_in act)

-- the line is a moment, one space (32), a field with no space, one space and this last field, of any bytes
pub record CutsFields (line : List ℕ) (moment : ℕ) (partners_field last_field : List ℕ) : Type 0 where
  pub moment_field : List ℕ
  pub parts : line ≡ moment_field ++ 32 ∷ partners_field ++ 32 ∷ last_field
  pub says_moment : WritesUpTo max_moment moment_field moment
  pub no_space : All (λ byte. byte ≢ 32) partners_field

-- the line is a moment, one space, partners up to this place, one space and this last field
pub record HasFieldsUpTo (most : ℕ) (line : List ℕ) (moment : ℕ) (partners last_field : List ℕ) : Type 0 where
  pub partners_field : List ℕ
  pub cut : CutsFields line moment partners_field last_field
  pub says_partners : SaysPartnersUpTo most partners_field partners

-- the line is read as the entry, whose partners' places are at most this
pub record ReadsEntryUpTo (most : ℕ) (line : List ℕ) (e : Entry) : Type 0 where
  pub act_field : List ℕ
  pub fields : HasFieldsUpTo most line e.moment e.partners act_field
  pub says_act : SaysAct act_field e.act

-- ---- all lines

-- the limits of an account's lines: the greatest place of a partner, and the most entries
pub record LineLimits : Type 0 where
  pub greatest_place : ℕ
  pub most_entries : ℕ

-- the lines, at most so many, are read one by one as the entries
pub record ReadsEntriesUnder (limits : LineLimits) (lines : List (List ℕ)) (entries : List Entry) : Type 0
  where
    pub one_by_one : AllZip (ReadsEntryUpTo limits.greatest_place) lines entries
    pub not_too_many : length lines ≤ limits.most_entries

-- the first line is read as the account's epoch and opening moment, and the others as its entries
pub record ReadsAccountUnder (limits : LineLimits) (lines : List (List ℕ)) (a : Account) : Type 0 where
  pub head : List ℕ
  pub rest : List (List ℕ)
  pub parts : lines ≡ head ∷ rest
  pub says_head : ReadsHead head a.epoch a.opened
  pub says_entries : ReadsEntriesUnder limits rest a.entries

-- the line of this number, counted from 1, is the first bad one: the lines before it, if there are any, are
-- read as an account, and with it they are not; with no lines it is line 1
pub record FirstBadLineUnder (limits : LineLimits) (lines : List (List ℕ)) (n : ℕ) : Type 0 where
  pub from_one : 1 ≤ n
  pub read_before : (n ≡ 1) ⊎ ((a : Account) × ReadsAccountUnder limits (take (n - 1) lines) a)
  pub read_no_more : (a : Account) → ¬ ReadsAccountUnder limits (take n lines) a

-- ---- under an account's own limits

-- the places up to 99,999, and 100,000 entries
abbrev pub account_limits : LineLimits
account_limits = record { greatest_place = max_partner; most_entries = max_entries }

abbrev pub ReadsEntry : List ℕ → Entry → Type 0
ReadsEntry = ReadsEntryUpTo max_partner

abbrev pub ReadsEntries : List (List ℕ) → List Entry → Type 0
ReadsEntries = ReadsEntriesUnder account_limits

abbrev pub ReadsAccount : List (List ℕ) → Account → Type 0
ReadsAccount = ReadsAccountUnder account_limits

abbrev pub FirstBadLine : List (List ℕ) → ℕ → Type 0
FirstBadLine = FirstBadLineUnder account_limits
