-- For private clauses: the text that is written for a member.
use Rattle.std.specs.Prelude.{◌≡◌, ◌≤◌, ℕ, List, Option, Some, None, String, false, string_bytes}
use Rattle.std.specs.declared.alloc.Global.{Global}
use Rattle.serde_json.specs.Data.{Data, depth}
use Rattle.serde_json.specs.Read.{max_depth, read}
use Rattle.serde_json.specs.Written.{compact_text, has_float}

-- no deeper than a text that can be read
abbrev pub IsShallow : Data → Type 0
IsShallow value = depth value ≤ max_depth

-- the text is that of the value, and reads back as it
pub record IsTextOf (value : Data) (text : List ℕ) : Type 0 where
  pub compact : has_float value ≡ false → text ≡ compact_text value
  pub reads_back : depth value ≤ max_depth → read text ≡ Some value

-- the text is that of the value, if there is one
abbrev pub HasMemberText : Option Data → Option (String Global) → Type 0
HasMemberText (Some value) (Some text) = IsTextOf value (string_bytes text)
HasMemberText None None = Unit {0}
HasMemberText _ _ = ⊥
