-- The compact text of an object of two flat objects.
use Rattle.std.specs.Prelude.{◌≡◌, ℕ, List, [], ◌∷◌, ◌++◌}
use Rattle.json.specs.Print.{quoted}
use Rattle.serde_json.specs.Data.{Data, object, no_members, put}
use Rattle.rv_json.specs.declared.flat.FlatMember.{FlatMember}
use Rattle.rv_json.specs.Bodies.{Reads}
use Rattle.rv_json.specs.Scan.{each_text, field_text, FitEach}

-- the bytes are read as an object of two members, and each of these texts as the value at its name; if both
-- have one name, the second counts
pub record ReadsPair (bytes first one second other : List ℕ) : Type 0 where
  pub value : Data
  pub next : Data
  pub reads_one : Reads one value
  pub reads_other : Reads other next
  pub reads : Reads bytes (object (put second next (put first value no_members)))

-- ---- for private clauses: how the text is made up

-- a flat object, of one member or more
abbrev pub object_text : List FlatMember → FlatMember → List ℕ
object_text fields last = 123 ∷ (each_text fields ++ (field_text last ++ 125 ∷ []))

pub record IsFlatText (bytes : List ℕ) : Type 0 where
  pub fields : List FlatMember
  pub last : FlatMember
  pub fit : FitEach (fields ++ last ∷ [])
  pub text : bytes ≡ object_text fields last

-- the same of the bytes up to where the rest begins
pub record BeginsByFlat (bytes rest : List ℕ) : Type 0 where
  pub fields : List FlatMember
  pub last : FlatMember
  pub fit : FitEach (fields ++ last ∷ [])
  pub text : bytes ≡ object_text fields last ++ rest

-- two texts, each after its name
abbrev pub pair_text : List ℕ → List ℕ → List ℕ → List ℕ → List ℕ
pair_text first one second other =
    123 ∷ ((quoted first ++ (58 ∷ one)) ++ (44 ∷ ((quoted second ++ (58 ∷ other)) ++ 125 ∷ [])))
