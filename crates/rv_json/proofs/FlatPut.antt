-- Members put one after another.
use Rattle.std.proofs.Common.{◌≡◌, ℕ, ◌-◌, ◌+◌, ◌≤◌, List, [], ◌∷◌, ◌++◌, length, take, get_or, Some, true}
use Rattle.std.proofs.Common.{false, true≢false, refl, ap, ◌∙◌, subst, sym, arith}
use Rattle.std.proofs.lemmas.List.{take_more}
use Rattle.std.specs.Str.{bytes_eq}
use Rattle.std.proofs.lemmas.Slice.Eq.{bytes_eq-Decides}
use Rattle.serde_json.specs.Data.{Members, put, no_members}
use Rattle.serde_json.specs.Find.{get_member}
use Rattle.serde_json.proofs.Views.{get_member-put, get_member-put_other}
use Rattle.rv_json.specs.declared.flat.Plain.TheVariants.{Whole}
use Rattle.rv_json.specs.declared.flat.FlatMember.{FlatMember}
use Rattle.rv_json.specs.Flat.{plain_data, put_each, flat_members}

pub put_push : (fs : List FlatMember) (f : FlatMember) (ms : Members)
    → put_each (fs ++ f ∷ []) ms ≡ put f.name.now (plain_data f.value) (put_each fs ms)
put_push [] f ms = refl
put_push (g ∷ fs) f ms = put_push fs f (put g.name.now (plain_data g.value) ms)

-- the last member is found, at its name
last_here : (name : List ℕ) (fs : List FlatMember) (f : FlatMember) → f.name.now ≡ name
    → get_member name (flat_members (fs ++ f ∷ [])) ≡ Some (plain_data f.value)
last_here name fs f is =
    ap (get_member name) (put_push fs f no_members)
    ∙ subst (λ n. get_member n (put f.name.now (plain_data f.value) (flat_members fs))
    ≡ Some (plain_data f.value)) is
    (get_member-put f.name.now (plain_data f.value) (flat_members fs))

-- at another name what stands before it is
last_apart : (name : List ℕ) (fs : List FlatMember) (f : FlatMember) → (name ≡ f.name.now → ⊥)
    → get_member name (flat_members (fs ++ f ∷ [])) ≡ get_member name (flat_members fs)
last_apart name fs f apart =
    ap (get_member name) (put_push fs f no_members)
    ∙ get_member-put_other name f.name.now (plain_data f.value) (flat_members fs) apart

differs : (xs ys : List ℕ) → bytes_eq xs ys ≡ false → ys ≡ xs → ⊥
differs xs ys other same = true≢false (sym ((bytes_eq-Decides xs ys).1 (sym same)) ∙ other)

-- ---- the last of the first members

-- what stands in no place
abbrev pub none : FlatMember
none = record { name = record { ref_ptr = (0, 0); now = [] }; value = Whole 0 }

front : (fs : List FlatMember) (count : ℕ) → 1 ≤ count → count ≤ length fs
    → take count fs ≡ take (count - 1) fs ++ get_or fs (count - 1) none ∷ []
front fs count some within =
    let next : count ≡ count - 1 + 1 = omega arith in
    ap (λ k. take k fs) next ∙ take_more fs (count - 1) none (omega arith)

-- it has the name
pub last_of_front : (name : List ℕ) (fs : List FlatMember) (count : ℕ) → 1 ≤ count → count ≤ length fs
    → bytes_eq (get_or fs (count - 1) none).name.now name ≡ true
    → get_member name (flat_members (take count fs)) ≡ Some (plain_data (get_or fs (count - 1) none).value)
last_of_front name fs count some within same =
    let f = get_or fs (count - 1) none in
    ap (λ gs. get_member name (flat_members gs)) (front fs count some within)
    ∙ last_here name (take (count - 1) fs) f ((bytes_eq-Decides f.name.now name).0 same)

-- it has another name
pub rest_of_front : (name : List ℕ) (fs : List FlatMember) (count : ℕ) → 1 ≤ count → count ≤ length fs
    → bytes_eq (get_or fs (count - 1) none).name.now name ≡ false
    → get_member name (flat_members (take count fs)) ≡ get_member name (flat_members (take (count - 1) fs))
rest_of_front name fs count some within other =
    let f = get_or fs (count - 1) none in
    ap (λ gs. get_member name (flat_members gs)) (front fs count some within)
    ∙ last_apart name (take (count - 1) fs) f (differs f.name.now name other)
