-- The kinds of members that a body is made of: the JSON value and the limit of each kind.
use Rattle.std.specs.Prelude.{ℕ, ◌≤◌, List, [], ◌∷◌, map, codes}
use Rattle.serde_json.specs.Data.{Data, number, unsigned, string, array, object, Members, no_members, put}
use Rattle.serde_json.specs.View.{items_of}
pub use Rattle.rv_json.specs.Limits.{FitsItem, FitsItems}
use Rattle.rv_text.specs.declared.call.Wait.{Wait}
use Rattle.rv_text.specs.declared.call.Wait.TheVariants as wait

-- ---- limits

-- which whole numbers a member may have
pub data Limit : Type 0 where
  -- 0 to this
  up_to : ℕ → Limit
  -- 1 to this
  from_one_to : ℕ → Limit

abbrev pub Keeps : Limit → ℕ → Type 0
Keeps (up_to most) n = n ≤ most
Keeps (from_one_to most) n = (1 ≤ n) × (n ≤ most)

-- 2 ^ 53 - 1
abbrev pub max_identifier : ℕ
max_identifier = 9007199254740991

-- an epoch, a client, an incarnation or a request number
abbrev pub identifiers : Limit
identifiers = from_one_to max_identifier

-- a session's last number: 0 if it has none yet
abbrev pub last_numbers : Limit
last_numbers = up_to max_identifier

abbrev pub queue_numbers : Limit
queue_numbers = up_to 63

abbrev pub exchanger_numbers : Limit
exchanger_numbers = up_to 63

-- the milliseconds of a wait
abbrev pub wait_numbers : Limit
wait_numbers = up_to 86400000

abbrev pub FitsWait : Wait → Type 0
FitsWait wait.Now = Unit {0}
FitsWait (wait.Millis millis) = Keeps wait_numbers millis
FitsWait wait.Forever = Unit {0}

-- how many items a drain takes at most
abbrev pub drain_numbers : Limit
drain_numbers = from_one_to 16

-- how many items, or consumers, there are
abbrev pub counted_numbers : Limit
counted_numbers = up_to 100000

-- a refusal's code
abbrev pub code_numbers : Limit
code_numbers = from_one_to 12

-- a version's number
abbrev pub version_numbers : Limit
version_numbers = from_one_to 2

-- ---- kinds

-- a member: its name, and its value by kind
pub data Member : Type 0 where
  -- a fixed word
  word : List ℕ → List ℕ → Member
  -- a whole number that keeps a limit
  whole : List ℕ → Limit → ℕ → Member
  -- an item's text
  item_text : List ℕ → List ℕ → Member
  -- a list of items' texts
  item_texts : List ℕ → List (List ℕ) → Member
  -- how long a request may wait: a word, or its milliseconds
  wait_time : List ℕ → Wait → Member

-- its name and its JSON value
abbrev pub Field : Type 0
Field = List ℕ × Data

abbrev pub wait_value : Wait → Data
wait_value wait.Now = string (codes "now")
wait_value (wait.Millis millis) = number (unsigned millis)
wait_value wait.Forever = string (codes "forever")

abbrev pub texts_value : List (List ℕ) → Data
texts_value texts = array (items_of (map string texts))

abbrev pub field_of : Member → Field
field_of (word name bytes) = (name, string bytes)
field_of (whole name limit n) = (name, number (unsigned n))
field_of (item_text name bytes) = (name, string bytes)
field_of (item_texts name texts) = (name, texts_value texts)
field_of (wait_time name waits) = (name, wait_value waits)

abbrev pub IsWithin : Member → Type 0
IsWithin (word name bytes) = Unit {0}
IsWithin (whole name limit n) = Keeps limit n
IsWithin (item_text name bytes) = FitsItem bytes
IsWithin (item_texts name texts) = FitsItems texts
IsWithin (wait_time name waits) = FitsWait waits

-- ---- rows of members

-- a row's members that have a limit: all but words
abbrev pub limited_members : List Member → List Member
limited_members [] = []
limited_members (word name bytes ∷ row) = limited_members row
limited_members (whole name limit n ∷ row) = whole name limit n ∷ limited_members row
limited_members (item_text name bytes ∷ row) = item_text name bytes ∷ limited_members row
limited_members (item_texts name texts ∷ row) = item_texts name texts ∷ limited_members row
limited_members (wait_time name waits ∷ row) = wait_time name waits ∷ limited_members row

abbrev pub WithinFrom : Member → List Member → Type 0
WithinFrom member [] = IsWithin member
WithinFrom member (next ∷ row) = IsWithin member × WithinFrom next row

abbrev pub WithinEach : List Member → Type 0
WithinEach [] = Unit {0}
WithinEach (member ∷ row) = WithinFrom member row

-- each member that has a limit is within it: a product with one factor for each of them
abbrev pub AllWithin : List Member → Type 0
AllWithin row = WithinEach (limited_members row)

-- the object with these members besides its own, each name once and in byte order, as `serde_json` keeps them
abbrev pub with_fields : List Field → Members → Members
with_fields [] members = members
with_fields (field ∷ fields) members = with_fields fields (put field.0 field.1 members)

-- the members of the row
abbrev pub members_of : List Member → Members
members_of row = with_fields (map field_of row) no_members

-- the JSON object of the row
abbrev pub object_of : List Member → Data
object_of row = object (members_of row)
