-- What is found among the members of an object, each by its name.
use Rattle.std.specs.Prelude.{◌≡◌, ℕ, List, codes, Option, Some, None, option_and_then, Result, Ok, Err}
use Rattle.std.specs.Prelude.{String}
use Rattle.std.specs.declared.alloc.Global.{Global}
use Rattle.std.specs.BTreeMap.{BTreeMap}
use Rattle.std.specs.Ordering.{match_ordering, nat_cmp}
use Rattle.std.specs.Cmp.Lexicographic.{slice_cmp}
use Rattle.serde_json.specs.Data.{Members}
use Rattle.serde_json.specs.Data as json
use Rattle.serde_json.specs.View.{members_view}
use Rattle.serde_json.specs.declared.value.Value.{Value}
use Rattle.serde_json.specs.Find.{get_member, as_number, as_u64, as_str}
use Rattle.rv_json.specs.declared.members.Members.{Members as Object}
use Rattle.rv_json.specs.declared.members.Members.TheVariants.{Flat, Tree}
use Rattle.rv_json.specs.Flat.{flat_members, seen}
pub use Rattle.rv_json.specs.Listed.{◌>>=◌, texts_of, few_of, few_in, texts_in}
use Rattle.rv_json.specs.declared.fault.TextFault.{TextFault}
use Rattle.rv_json.specs.declared.fault.TextFault.TheVariants as fault

-- a JSON object in memory
abbrev pub Map : Type 0
Map = BTreeMap (String Global) Value

-- ---- what a reader answers

-- the fault that a reader answers if this is to be found
abbrev pub Fails : {A : Type 0} → TextFault → Option A → Type 0
Fails fault.NotJson found = ⊥
Fails fault.NotMessage found = found ≡ None
Fails fault.NoMemory found = Unit {0}

-- a reader's answer, seen by view, is what is to be found, unless memory ran out
abbrev pub Finds : {A B : Type 0} → (A → B) → Result A TextFault → Option B → Type 0
Finds view (Ok x) found = found ≡ Some (view x)
Finds view (Err fault) found = Fails fault found

-- the same of what is to be found among the members of a map
abbrev pub FindsSeenAmong : {A B : Type 0}
    → Object → (A → B) → Result A TextFault → (Members → Option B) → Type 0
FindsSeenAmong object view answer found = Finds view answer (found (seen object))

abbrev pub FindsAmong : {A : Type 0} → Object → Result A TextFault → (Members → Option A) → Type 0
FindsAmong object answer found = FindsSeenAmong object (λ x. x) answer found

-- ---- one member

abbrev pub whole_among : List ℕ → Members → Option ℕ
whole_among name members = option_and_then as_u64 (option_and_then as_number (get_member name members))

abbrev pub text_among : List ℕ → Members → Option (List ℕ)
text_among name members = option_and_then as_str (get_member name members)

abbrev pub item_among : Members → Option (List ℕ)
item_among = text_among (codes "item")

-- only an item among flat members is copied: that of a map is taken out as it is
abbrev pub CopiesItem : Object → Type 0
CopiesItem (Flat fields) = ¬ (item_among (flat_members fields.now) ≡ None)
CopiesItem (Tree map) = ⊥

-- the members without that of this name; a map has each name once
abbrev pub without : List ℕ → Members → Members
without name json.no_members = json.no_members
without name (json.member other value members) =
    match_ordering (slice_cmp nat_cmp name other)
    (json.member other value (without name members))
    members
    (json.member other value (without name members))

-- after an item or texts were read, flat members are as they were, and a map lacks the member of this name
abbrev pub Leaves : List ℕ → Object → Object → Type 0
Leaves name (Flat fields) after = after ≡ Flat fields
Leaves name (Tree map) (Flat fields) = ⊥
Leaves name (Tree map) (Tree rest) = members_view rest.entries ≡ without name (members_view map.entries)

-- ---- a list of texts

abbrev pub texts_among : Members → Option (List (List ℕ))
texts_among members = texts_in (get_member (codes "texts") members)

-- texts among flat members are copied; those of a map, with others like them, are moved into a longer list
abbrev pub TakesRoomForTexts : Object → Type 0
TakesRoomForTexts (Flat fields) = ¬ (texts_among (flat_members fields.now) ≡ None)
TakesRoomForTexts (Tree map) =
    ¬ (option_and_then few_in (get_member (codes "texts") (members_view map.entries)) ≡ None)
