-- The steps of a reader: each finds just what stands in the object.
use Rattle.std.proofs.Common.{◌≡◌, ℕ, suc, List, [], ◌∷◌, length, map, codes}
use Rattle.std.proofs.Common.{Bool, true, false, cond, Option, Some, None, option_and_then, bytes_eq, nat_eq}
use Rattle.std.proofs.Common.{refl, sym, ap, ap₂, subst, inl, inr}
use Rattle.std.proofs.lemmas.Bool.Decides.{Decides-eqb}
use Rattle.std.proofs.lemmas.Bool.{le-leb}
use Rattle.std.proofs.lemmas.Option.{same_Some}
use Rattle.std.proofs.lemmas.Slice.Eq.{bytes_eq-Decides}
use Rattle.std.specs.Prelude.{◌⊎◌, ◌≤◌, nat_le}
use Rattle.serde_json.specs.Data.{unsigned, negative, float, Data, null, boolean, number, string, array}
use Rattle.serde_json.specs.Data.{object, Items, no_items, item, Members}
use Rattle.serde_json.specs.View.{items_of}
use Rattle.serde_json.specs.Events.{items_len}
use Rattle.serde_json.specs.Find.{get_member, as_number, as_u64, as_str}
use Rattle.rv_text.specs.Members.{Member, Field, field_of, members_of, texts_value}
use Rattle.rv_json.specs.Finding.{◌>>=◌, whole_among, text_among, few_in, texts_of, texts_among}
use Rattle.rv_text.specs.Reading.{ReaderLine, under, among, numbered_among}
use Rattle.rv_text.specs.Reading.{Shape}
use Rattle.rv_text.proofs.Objects.{HoldsFields}
use Rattle.rv_text.proofs.Sound.{IsSoundRow}

-- ---- the steps of a reader

-- a step that finds x goes on from it
pub step_found : {A B : Type 0} (P : B → Type 0) (o : Option A) (next : A → Option B)
    → ((x : A) → o ≡ Some x → (y : B) → next x ≡ Some y → P y) → (y : B) → (o >>= next) ≡ Some y → P y
step_found P None next each y e = absurd (cc)
step_found P (Some x) next each y e = each x refl y e

-- the last step is the value
pub last_found : {B : Type 0} (P : B → Type 0) (x : B) → P x → (y : B) → Some x ≡ Some y → P y
last_found P x h y e = subst P (same_Some _ _ e) h

-- which of two ways a test went
chosen : {A : Type 0} (b : Bool) (x y : Option A) (z : A) → cond b x y ≡ Some z
    → ((b ≡ true) × (x ≡ Some z)) ⊎ (y ≡ Some z)
chosen true x y z e = inl (refl, e)
chosen false x y z e = inr e

-- ---- one member

as_u64_is : (d : Data) (n : ℕ) → option_and_then as_u64 (as_number d) ≡ Some n → d ≡ number (unsigned n)
as_u64_is (number (unsigned m)) n e = ap (λ k. number (unsigned k)) (cc)
as_u64_is (number (negative z)) n e = absurd (cc)
as_u64_is (number (float x)) n e = absurd (cc)
as_u64_is null n e = absurd (cc)
as_u64_is (boolean b) n e = absurd (cc)
as_u64_is (string s) n e = absurd (cc)
as_u64_is (array ds) n e = absurd (cc)
as_u64_is (object ms) n e = absurd (cc)

as_str_is : (d : Data) (s : List ℕ) → as_str d ≡ Some s → d ≡ string s
as_str_is (string t) s e = ap string (cc)
as_str_is (number n) s e = absurd (cc)
as_str_is null s e = absurd (cc)
as_str_is (boolean b) s e = absurd (cc)
as_str_is (array ds) s e = absurd (cc)
as_str_is (object ms) s e = absurd (cc)

few_is : (few : Bool) (es ds : Items) → cond few (Some es) None ≡ Some ds → es ≡ ds
few_is true es ds e = cc
few_is false es ds e = absurd (cc)

few_in_is : (d : Data) (ds : Items) → few_in d ≡ Some ds → d ≡ array ds
few_in_is (array es) ds e = ap array (few_is (nat_le (items_len es) 16) es ds e)
few_in_is null ds e = absurd (cc)
few_in_is (boolean b) ds e = absurd (cc)
few_in_is (number n) ds e = absurd (cc)
few_in_is (string s) ds e = absurd (cc)
few_in_is (object ms) ds e = absurd (cc)

number_found : (o : Option Data) (n : ℕ) → option_and_then as_u64 (option_and_then as_number o) ≡ Some n
    → o ≡ Some (number (unsigned n))
number_found None n e = absurd (cc)
number_found (Some d) n e = ap Some (as_u64_is d n e)

string_found : (o : Option Data) (s : List ℕ) → option_and_then as_str o ≡ Some s → o ≡ Some (string s)
string_found None s e = absurd (cc)
string_found (Some d) s e = ap Some (as_str_is d s e)

few_found : (o : Option Data) (ds : Items) → option_and_then few_in o ≡ Some ds → o ≡ Some (array ds)
few_found None ds e = absurd (cc)
few_found (Some d) ds e = ap Some (few_in_is d ds e)

-- ---- lists of texts

-- of the values of texts the texts are found
pub find_texts : (texts : List (List ℕ)) → texts_of (items_of (map string texts)) ≡ Some texts
find_texts [] = refl
find_texts (s ∷ texts) = rw (find_texts texts) refl

as_many : (texts : List (List ℕ)) → items_len (items_of (map string texts)) ≡ length texts
as_many [] = refl
as_many (s ∷ texts) = ap suc (as_many texts)

-- and they are few, where the texts are
pub are_few : (texts : List (List ℕ)) → length texts ≤ 16
    → nat_le (items_len (items_of (map string texts))) 16 ≡ true
are_few texts few = subst (λ n. nat_le n 16 ≡ true) (sym (as_many texts)) (le-leb (length texts) 16 few)

each_found : (d : Data) (ds : Items) (head : Option (List ℕ)) (tail : Option (List (List ℕ)))
    → as_str d ≡ head → texts_of ds ≡ tail
    → ((texts : List (List ℕ)) → tail ≡ Some texts → ds ≡ items_of (map string texts))
    → (texts : List (List ℕ)) → (head >>= λ s. tail >>= λ rest. Some (s ∷ rest)) ≡ Some texts
    → item d ds ≡ items_of (map string texts)
each_found d ds None tail is are later texts e = absurd (cc)
each_found d ds (Some s) None is are later texts e = absurd (cc)
each_found d ds (Some s) (Some rest) is are later texts e =
    let first : d ≡ string s = as_str_is d s is in
    let others : ds ≡ items_of (map string rest) = later rest refl in
    subst (λ all. item d ds ≡ items_of (map string all)) (same_Some _ _ e) (ap₂ item first others)

-- and where texts are found, the values are theirs
texts_are : (ds : Items) (texts : List (List ℕ)) → texts_of ds ≡ Some texts → ds ≡ items_of (map string texts)
texts_are no_items texts e = subst (λ all. no_items ≡ items_of (map string all)) (same_Some _ _ e) refl
texts_are (item d ds) texts e = each_found d ds (as_str d) (texts_of ds) refl refl (texts_are ds) texts e

list_found : (o : Option Items) (texts : List (List ℕ)) → (o >>= texts_of) ≡ Some texts
    → o ≡ Some (items_of (map string texts))
list_found None texts e = absurd (cc)
list_found (Some ds) texts e = ap Some (texts_are ds texts e)

-- ---- rows of members

module _ (ms : Members) where
  abbrev pub Has : Field → Type 0
  Has f = get_member f.0 ms ≡ Some f.1

  -- the members of the row are found
  abbrev pub HasRow : List Member → Type 0
  HasRow row = HoldsFields (map field_of row) ms

  pub whole_found : (name : List ℕ) (n : ℕ) → whole_among name ms ≡ Some n → Has (name, number (unsigned n))
  whole_found name n e = number_found (get_member name ms) n e

  pub text_found : (name s : List ℕ) → text_among name ms ≡ Some s → Has (name, string s)
  text_found name s e = string_found (get_member name ms) s e

  pub texts_found : (texts : List (List ℕ)) → texts_among ms ≡ Some texts
      → Has (codes "texts", texts_value texts)
  texts_found texts e = few_found (get_member (codes "texts") ms) (items_of (map string texts))
      (list_found (option_and_then few_in (get_member (codes "texts") ms)) texts e)

  -- each line finds what has P, where its word or number is found
  abbrev pub AreLines : {K A : Type 0} → (A → Type 0) → (K → Type 0) → List (ReaderLine K A) → Type 0
  AreLines P Is [] = Unit {0}
  AreLines P Is (line ∷ lines) = (Is line.0 → (x : _) → line.1 ms ≡ Some x → P x) × AreLines P Is lines

  line_found : {K A : Type 0} (same : K → K → Bool) → ((a b : K) → same a b ≡ true → a ≡ b)
      → (P : A → Type 0) (Is : K → Type 0) (lines : List (ReaderLine K A)) → AreLines P Is lines
      → (key : K) → Is key → (x : A) → under same key lines ms ≡ Some x → P x
  line_found same equal P Is [] are key is x e = absurd (cc)
  line_found same equal P Is (line ∷ lines) are key is x e = elim (chosen (same key line.0) (line.1 ms)
      (under same key lines ms) x e) [
        | inl way ↦ are.0 (subst Is (equal key line.0 way.0) is) x way.1
        | inr way ↦ line_found same equal P Is lines are.1 key is x way
      ]

  pub among_found : {A : Type 0} (P : A → Type 0) (name : List ℕ) (lines : List (ReaderLine (List ℕ) A))
      → AreLines P (λ s. Has (name, string s)) lines
      → (x : A) → among name lines ms ≡ Some x → P x
  among_found P name lines are =
      step_found P (text_among name ms) _ (λ s read.
      line_found bytes_eq (λ a b. (bytes_eq-Decides a b).0) P (λ s. Has (name, string s)) lines are s
      (text_found name s read))

  pub numbered_found : {A : Type 0} (P : A → Type 0) (name : List ℕ) (lines : List (ReaderLine ℕ A))
      → AreLines P (λ n. Has (name, number (unsigned n))) lines
      → (x : A) → numbered_among name lines ms ≡ Some x → P x
  numbered_found P name lines are =
      step_found P (whole_among name ms) _ (λ n read.
      line_found nat_eq (λ a b. (Decides-eqb a b).0) P (λ n. Has (name, number (unsigned n))) lines are n
      (whole_found name n read))

-- no member has one of these names
abbrev pub Lacks : List (List ℕ) → Members → Type 0
Lacks [] ms = Unit {0}
Lacks (name ∷ names) ms = (get_member name ms ≡ None) × Lacks names ms

-- what is found is what the row says; what is told by a member that isn't there is found where it lacks
pub record IsReader (A : Type 0) (shape : Shape A) : Type 0 where
  pub sound : (x : A) → IsSoundRow (shape.row x)
  pub has : (ms : Members) (x : A) → shape.found ms ≡ Some x → HoldsFields (map field_of (shape.row x)) ms
  pub without : A → List (List ℕ)
  pub lacks : (x : A) → Lacks (without x) (members_of (shape.row x))
  pub finds : (ms : Members) (x : A) → shape.Fits x → HoldsFields (map field_of (shape.row x)) ms
      → Lacks (without x) ms → shape.found ms ≡ Some x
