-- An account: a list of entries, with its epoch and its opening moment. Places are indices of the list.
use Rattle.std.specs.Prelude.{◌≡◌, ◌-◌, ℕ, List, [], ◌∷◌, ◌++◌, Option, Some, None, length, option_map}
use Rattle.std.specs.Prelude.{option_and_then}
use Rattle.std.specs.Prelude.{slice_get, unwrap_or}
use Rattle.rv_text.specs.declared.message.Key.{Key}
use Rattle.rv_text.specs.declared.call.Call.{Call}
use Rattle.rv_text.specs.Calls.{item_of}
use Rattle.rv_account.specs.declared.entry.Entry.{Entry}
use Rattle.rv_account.specs.declared.entry.Act.{Act}
use Rattle.rv_account.specs.declared.entry.Act.TheVariants.{Hello, Arrive, Cancel, Tick}
use Rattle.rv_account.specs.Calls.{limit_of}

pub record Account : Type 0 where
  pub epoch : ℕ
  pub opened : ℕ
  pub entries : List Entry

-- an account as it lies in memory: with how many more entries it has room for
pub record Stored : Type 0 where
  pub account : Account
  pub room : ℕ

abbrev pub entry : ℕ → Act → List ℕ → Entry
entry moment does partners = record { moment = moment; act = does; partners = partners }

-- the account with one more entry
abbrev pub with_entry : Account → Entry → Account
with_entry a e = record { epoch = a.epoch; opened = a.opened; entries = a.entries ++ e ∷ [] }

-- the second account goes on where the first ends
pub record Extends (a b : Account) : Type 0 where
  pub epoch : b.epoch ≡ a.epoch
  pub opened : b.opened ≡ a.opened
  pub more : List Entry
  pub entries : b.entries ≡ a.entries ++ more

-- ---- partners

-- the place is one of these
abbrev pub Among : List ℕ → ℕ → Type 0
Among places p = (i : ℕ) × (slice_get places i ≡ Some p)

-- the entry names the place as a partner
abbrev pub Names : Entry → ℕ → Type 0
Names e p = Among e.partners p

-- the entry at r names the place as a partner
pub record NamesAt (entries : List Entry) (r p : ℕ) : Type 0 where
  pub entry : Entry
  pub there : slice_get entries r ≡ Some entry
  pub names : Names entry p

-- the list of one place, or of none
abbrev pub just : Option ℕ → List ℕ
just None = []
just (Some p) = p ∷ []

-- ---- what stands at a place

abbrev pub act_at : List Entry → ℕ → Option Act
act_at entries r = option_map (λ e. e.act) (slice_get entries r)

abbrev pub moment_at : List Entry → ℕ → Option ℕ
moment_at entries r = option_map (λ e. e.moment) (slice_get entries r)

-- the last entry's moment; where there are no entries, the opening moment
abbrev pub own_moment : Account → ℕ
own_moment a = unwrap_or (moment_at a.entries (length a.entries - 1)) a.opened

-- the call of an arrival
abbrev pub call_in : Act → Option Call
call_in (Hello client incarnation version) = None
call_in (Arrive key call) = Some call
call_in (Cancel key) = None
call_in Tick = None

-- the key that an act names
abbrev pub key_in : Act → Option Key
key_in (Hello client incarnation version) = None
key_in (Arrive key call) = Some key
key_in (Cancel key) = Some key
key_in Tick = None

abbrev pub call_at : List Entry → ℕ → Option Call
call_at entries r = option_and_then call_in (act_at entries r)

abbrev pub key_at : List Entry → ℕ → Option Key
key_at entries r = option_and_then key_in (act_at entries r)

-- the item that the arrival at a place hands over
abbrev pub item_at : List Entry → ℕ → Option (List ℕ)
item_at entries place = option_and_then item_of (call_at entries place)

-- the items that the arrivals at these places hand over, in the order of the places
abbrev pub items_at : List Entry → List ℕ → Option (List (List ℕ))
items_at entries [] = Some []
items_at entries (place ∷ places) =
    option_and_then (λ item. option_map (λ items. item ∷ items) (items_at entries places))
    (item_at entries place)

-- the partners that the entry at a place names, and the items that these hand over
abbrev pub partners_at : List Entry → ℕ → Option (List ℕ)
partners_at entries r = option_map (λ e. e.partners) (slice_get entries r)

abbrev pub partners_items : List Entry → ℕ → Option (List (List ℕ))
partners_items entries r = option_and_then (items_at entries) (partners_at entries r)

-- the limit of the request that arrived at r
abbrev pub limit_in : Entry → Option ℕ
limit_in e = option_and_then (limit_of e.moment) (call_in e.act)

abbrev pub limit_at : List Entry → ℕ → Option ℕ
limit_at entries r = option_and_then limit_in (slice_get entries r)
