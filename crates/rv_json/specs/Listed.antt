-- A list of texts: of at most 16, as many as a drain takes.
use Rattle.std.specs.Prelude.{ℕ, List, [], ◌∷◌, map, if◌then◌else◌, nat_le, unwrap_or}
use Rattle.std.specs.Prelude.{Option, Some, None, option_and_then}
use Rattle.serde_json.specs.Data.{Data, Items, string, array}
use Rattle.serde_json.specs.Data as json
use Rattle.serde_json.specs.Events.{items_len}
use Rattle.serde_json.specs.Find.{as_array, as_str}
use Rattle.serde_json.specs.Read.{read}
use Rattle.serde_json.specs.View.{items_of}

infixl 10 ◌>>=◌
abbrev pub ◌>>=◌ : {A B : Type 0} → Option A → (A → Option B) → Option B
None >>= next = None
(Some x) >>= next = next x

-- the texts of a list, if each of its values is one
abbrev pub texts_of : Items → Option (List (List ℕ))
texts_of json.no_items = Some []
texts_of (json.item value values) = do
  text ← as_str value
  texts ← texts_of values
  Some (text ∷ texts)

-- the values of a list, if they are no more than a drain takes at most
abbrev pub few_of : Items → Option Items
few_of values = if nat_le (items_len values) 16 then Some values else None

abbrev pub few_in : Data → Option Items
few_in value = option_and_then few_of (as_array value)

-- the texts of a value that is a list of few, if one is there
abbrev pub texts_in : Option Data → Option (List (List ℕ))
texts_in value = do
  values ← option_and_then few_in value
  texts_of values

-- the list of these texts
abbrev pub list_of : List (List ℕ) → Data
list_of texts = array (items_of (map string texts))

-- the texts that `serde_json` reads of a list's own text: none if it is no such list
abbrev pub texts_read : List ℕ → List (List ℕ)
texts_read text = unwrap_or (texts_in (read text)) []
