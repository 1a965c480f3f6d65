-- The compact text of flat members.
use Rattle.std.specs.Prelude.{◌≡◌, ℕ, ◌<◌, ◌≤◌, ◌^◌, List, [], ◌∷◌, ◌++◌, length, decimal}
use Rattle.std.specs.Prelude.{Bool, if◌then◌else◌}
use Rattle.json.specs.Print.{quoted}
use Rattle.serde_json.specs.Written.{compact_text}
use Rattle.rv_json.specs.declared.flat.Plain.{Plain}
use Rattle.rv_json.specs.declared.flat.Plain.TheVariants.{Whole, Text, Texts}
use Rattle.rv_json.specs.declared.flat.FlatMember.{FlatMember}
use Rattle.rv_json.specs.Listed.{list_of}

abbrev pub plain_text : Plain → List ℕ
plain_text (Whole n) = decimal n
plain_text (Text s) = quoted s.now
plain_text (Texts s) = s.now

abbrev pub field_text : FlatMember → List ℕ
field_text f = quoted f.name.now ++ (58 ∷ plain_text f.value)

-- each with a comma after it
abbrev pub each_text : List FlatMember → List ℕ
each_text [] = []
each_text (f ∷ fs) = field_text f ++ (44 ∷ each_text fs)

-- the bytes are the compact text of a list of at most 16 texts
pub record IsListText (bytes : List ℕ) : Type 0 where
  pub texts : List (List ℕ)
  pub few : length texts ≤ 16
  pub text : bytes ≡ compact_text (list_of texts)

-- the same of the bytes up to where the rest begins
pub record BeginsByList (bytes rest : List ℕ) : Type 0 where
  pub texts : List (List ℕ)
  pub few : length texts ≤ 16
  pub text : bytes ≡ compact_text (list_of texts) ++ rest

-- what stands after a member of an object or a text of a list: the closing bracket, if it is the last, or
-- else a comma
abbrev pub mark_after : ℕ → Bool → ℕ
mark_after close last = if last then close else 44

-- a whole number is one of 64 bits
abbrev pub FitsPlain : Plain → Type 0
FitsPlain (Whole n) = n < 2 ^ 64
FitsPlain (Text s) = Unit {0}
FitsPlain (Texts s) = IsListText s.now

abbrev pub FitEach : List FlatMember → Type 0
FitEach [] = Unit {0}
FitEach (f ∷ fs) = FitsPlain f.value × FitEach fs
