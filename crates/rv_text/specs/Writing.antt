-- For private clauses: what the encoder puts, in the order in which it is written.
use Rattle.std.specs.Prelude.{◌≡◌, ℕ, List, [], ◌∷◌, map, codes, Option, Some, None}
use Rattle.serde_json.specs.Data.{string, no_members}
use Rattle.rv_json.specs.Writing.{Writes, text_with}
use Rattle.rv_json.specs.declared.writer.ObjectText.{ObjectText}
use Rattle.rv_text.specs.declared.message.Key.{Key}
use Rattle.rv_text.specs.declared.call.Side.{Side}
use Rattle.rv_text.specs.declared.call.Side.TheVariants as side
use Rattle.rv_text.specs.declared.call.Wait.{Wait}
use Rattle.rv_text.specs.Members.{Member, word, whole, identifiers, Field, field_of, members_of}
use Rattle.rv_text.specs.Rows.{key_row, side_row, wait_row, max_or_wait_row}

-- the new text has the row's members after those of the old, in their order
abbrev pub WritesRow : List Member → ObjectText → ObjectText → Type 0
WritesRow row old new = Writes (map field_of row) old new

-- the new text is that of the old with the members of the row, in byte order of their names, and no more
abbrev pub Completes : List Member → ObjectText → ObjectText → Type 0
Completes row old new = text_with no_members new ≡ text_with (members_of row) old

-- the members of a value of this kind that has a key
abbrev pub keyed_row : List ℕ → Key → List Member
keyed_row kind key = word (codes "kind") kind ∷ key_row key

-- a key without its number, in byte order
abbrev pub session_row : Key → List Member
session_row key =
    whole (codes "client") identifiers key.client ∷
    whole (codes "epoch") identifiers key.epoch ∷
    whole (codes "incarnation") identifiers key.incarnation ∷
    []

-- the last members of a reply with this word
abbrev pub word_row : ℕ → List ℕ → List Member
word_row number told =
    word (codes "kind") (codes "reply") ∷
    whole (codes "number") identifiers number ∷
    word (codes "reply") told ∷
    []

abbrev pub refused_field : Field
refused_field = (codes "kind", string (codes "refused"))

-- the members of a side: those of an exchanger, which come first, and those of a queue
abbrev pub exchanger_row : Side → List Member
exchanger_row (side.Exchanges exchanger) = side_row (side.Exchanges exchanger)
exchanger_row _ = []

abbrev pub queue_row : Side → List Member
queue_row (side.Exchanges exchanger) = []
queue_row at = side_row at

abbrev pub max_row : Option ℕ → List Member
max_row drains = max_or_wait_row drains None

abbrev pub wait_unless_max_row : Option ℕ → Option Wait → List Member
wait_unless_max_row None waits = wait_row waits
wait_unless_max_row (Some max) waits = []
