-- What a decoder looks for: a value that is alone in an object.
use Rattle.std.specs.Prelude.{◌≡◌, ℕ, List, Option, Some, Result, Ok, Err}
use Rattle.serde_json.specs.Data.{Data, Members}
use Rattle.serde_json.specs.Data as json
use Rattle.serde_json.specs.Events.{members_len}
use Rattle.rv_json.specs.declared.fault.TextFault.{TextFault}
use Rattle.rv_json.specs.declared.fault.TextFault.TheVariants as fault
use Rattle.rv_json.specs.Bodies.{HasBodyLength, Reads, IsNotJson}
use Rattle.rv_json.specs.Sorted.{IsSorted}

-- what a body may be read as: how it is found, how many members it has, and its limits
pub record Form (A : Type 0) : Type 1 where
  -- found among any other members, with no limit checked but that a list has at most 16 texts
  pub found : Members → Option A
  pub size : A → ℕ
  pub Fits : A → Type 0

-- it is found, with no other members and within the limits
pub record IsAlone (A : Type 0) (form : Form A) (members : Members) (x : A) : Type 0 where
  pub found : form.found members ≡ Some x
  pub whole : members_len members ≡ form.size x
  pub fits : form.Fits x

-- a reader answers that value exactly if there is one, unless memory ran out
abbrev pub FindsAlone : {A : Type 0} → Form A → Result A TextFault → Members → Type 0
FindsAlone {A} form (Ok x) object = IsAlone A form object x
FindsAlone form (Err fault.NotJson) object = ⊥
FindsAlone {A} form (Err fault.NotMessage) object = (x : A) → ¬ IsAlone A form object x
FindsAlone form (Err fault.NoMemory) object = Unit {0}

-- the bytes read as the object of these members, and the value is alone in it
pub record IsAloneIn (A : Type 0) (form : Form A) (bytes : List ℕ) (x : A) : Type 0 where
  pub members : Members
  pub sorted : IsSorted members
  pub reads : Reads bytes (json.object members)
  pub alone : IsAlone A form members x

-- the bytes read as a value that is no object in which one is alone
pub record HasNone (A : Type 0) (form : Form A) (bytes : List ℕ) : Type 0 where
  pub value : Data
  pub reads : Reads bytes value
  pub none : (members : Members) → value ≡ json.object members → (x : A) → ¬ IsAlone A form members x

-- what a decoder answers for bytes
abbrev pub FindsIn : {A : Type 0} → Form A → List ℕ → Result A TextFault → Type 0
FindsIn {A} form bytes (Ok x) = HasBodyLength bytes × IsAloneIn A form bytes x
FindsIn form bytes (Err fault.NotJson) = HasBodyLength bytes × IsNotJson bytes
FindsIn {A} form bytes (Err fault.NotMessage) = HasBodyLength bytes → HasNone A form bytes
FindsIn form bytes (Err fault.NoMemory) = HasBodyLength bytes
