-- The lines that are written for an account.
use Rattle.std.specs.Prelude.{◌≤◌, ◌<◌, [], ◌∷◌, ◌++◌, ℕ, List, Option, None, Some, codes, length}
use Rattle.std.specs.Fmt.{decimal}
use Rattle.rv_text.specs.declared.message.Message.{Message}
use Rattle.rv_text.specs.declared.message.Message.TheVariants as message
use Rattle.rv_text.specs.Bodies.{message_text}
use Rattle.rv_account.specs.declared.entry.Act.{Act}
use Rattle.rv_account.specs.declared.entry.Act.TheVariants as act
use Rattle.rv_account.specs.declared.entry.Entry.{Entry}
use Rattle.rv_account.specs.Account.{Names}

-- the message that an act records; a tick is none
abbrev pub message_in : Act → Option Message
message_in (act.Hello client incarnation version) = Some (message.Hello client incarnation version)
message_in (act.Arrive key call) = Some (message.Request key call)
message_in (act.Cancel key) = Some (message.Cancel key)
message_in act.Tick = None

-- ---- the fields and the lines

-- `epoch E opened T`
abbrev pub head_text : ℕ → ℕ → List ℕ
head_text epoch opened = codes "epoch " ++ decimal epoch ++ codes " opened " ++ decimal opened

-- a place and those after it, with a comma (44) between each two
abbrev pub places_text : ℕ → List ℕ → List ℕ
places_text place [] = decimal place
places_text place (next ∷ more) = decimal place ++ 44 ∷ places_text next more

-- the partners' places, or `-`
abbrev pub partners_text : List ℕ → List ℕ
partners_text [] = codes "-"
partners_text (place ∷ more) = places_text place more

-- the body that is written for the message, or `tick`
abbrev pub said_text : Option Message → List ℕ
said_text None = codes "tick"
said_text (Some m) = message_text m

-- three fields, with one space (32) between each two
abbrev pub entry_text : Entry → List ℕ
entry_text e = decimal e.moment ++ 32 ∷ partners_text e.partners ++ 32 ∷ said_text (message_in e.act)

-- ---- what can be written, and read again

-- the greatest place of a partner, and the most partners of an entry
abbrev pub max_partner : ℕ
max_partner = 99999

abbrev pub max_partners : ℕ
max_partners = 16

-- the places of the entry's partners are at most this
abbrev pub FitPlacesUpTo : ℕ → Entry → Type 0
FitPlacesUpTo most e = (p : ℕ) → Names e p → p ≤ most

-- they are within their limit
abbrev pub FitPlaces : Entry → Type 0
FitPlaces = FitPlacesUpTo max_partner

-- the entry's partners are within both limits, which bound its line
pub record FitPartners (e : Entry) : Type 0 where
  pub places : FitPlaces e
  pub few : length e.partners ≤ max_partners

-- the text is short: a body and the words before it, as they stand in a printed line, fit it
abbrev pub IsShort : List ℕ → Type 0
IsShort text = length text < 65727
