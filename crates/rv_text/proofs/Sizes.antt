-- How long the text of an object is, whose members are whole numbers, texts and lists of texts.
use Rattle.std.proofs.Common.{◌≡◌, ℕ, ◌+◌, ◌*◌, ◌/◌, ◌%◌, ◌^◌, ◌<◌, ◌≤◌, Bool, true, false, cond, List, []}
use Rattle.std.proofs.Common.{◌∷◌, ◌++◌, length, map, Ordering, Less, Equal, Greater, nat_cmp, sym, subst}
use Rattle.std.proofs.Common.{arith, length-append}
use Rattle.std.proofs.lemmas.Fmt.{length-decimal-le}
use Rattle.std.specs.Char.{digit_char}
use Rattle.std.specs.Prelude.{nat_lt}
use Rattle.std.specs.Cmp.Lexicographic.{slice_cmp}
use Rattle.std.specs.Ordering.{match_ordering}
use Rattle.json.specs.Print.{escape_letter, escape_byte, escape, quoted}
use Rattle.serde_json.specs.Data.{unsigned, negative, float, Data, null, boolean, number, string, array}
use Rattle.serde_json.specs.Data.{object, Items, no_items, item, Members, no_members, member, put}
use Rattle.serde_json.specs.View.{items_of}
use Rattle.serde_json.specs.Written.{comma_if, compact_text, items_text, members_text}
use Rattle.rv_text.specs.Members.{Field, with_fields}
use Rattle.rv_text.proofs.Objects.{AllFields, AllMembers, AllMembers-with_fields}

cond_length : (b : Bool) (xs ys : List ℕ) (n : ℕ) → length xs ≤ n → length ys ≤ n → length (cond b xs ys) ≤ n
cond_length true xs ys n p q = p
cond_length false xs ys n p q = q

length-escape_byte : (x : ℕ) → length (escape_byte x) ≤ 6
unfolding escape_byte
length-escape_byte x =
    let code : List ℕ = 92 ∷ 117 ∷ 48 ∷ 48 ∷ digit_char (x / 16) ∷ digit_char (x % 16) ∷ [] in
    cond_length (nat_lt 0 (escape_letter x)) (92 ∷ escape_letter x ∷ []) (cond (nat_lt x 32) code (x ∷ [])) 6
    (omega arith)
    (cond_length (nat_lt x 32) code (x ∷ []) 6 (omega arith) (omega arith))

length-escape : (s : List ℕ) → length (escape s) ≤ 6 * length s
length-escape [] = omega arith
length-escape (x ∷ s) = omega (
  arith,
  length-append (escape_byte x) (escape s),
  length-escape_byte x,
  length-escape s,
)

length-quoted : (s : List ℕ) → length (quoted s) ≤ 6 * length s + 2
length-quoted s = omega (arith, length-append (escape s) (34 ∷ []), length-escape s)

-- ---- what a member takes at most

abbrev mutual
  pub value_size : Data → ℕ
  value_size (number n) = 20
  value_size (string s) = 6 * length s + 2
  value_size null = 0
  value_size (boolean b) = 0
  value_size (array ds) = items_size ds + 2
  value_size (object ms) = 0

  pub items_size : Items → ℕ
  items_size no_items = 0
  items_size (item d ds) = value_size d + 1 + items_size ds

abbrev pub field_size : Field → ℕ
field_size f = 6 * length f.0 + 4 + value_size f.1

abbrev pub fields_size : List Field → ℕ
fields_size [] = 0
fields_size (f ∷ fs) = field_size f + fields_size fs

-- a list of texts
abbrev pub AreTexts : Items → Type 0
AreTexts ds = (texts : List (List ℕ)) × (ds ≡ items_of (map string texts))

-- a whole number of 64 bits, a text, or a list of texts
abbrev pub IsFlat : Data → Type 0
IsFlat (number (unsigned n)) = n < 2 ^ 64
IsFlat (string s) = Unit {0}
IsFlat (number (negative z)) = ⊥
IsFlat (number (float x)) = ⊥
IsFlat null = ⊥
IsFlat (boolean b) = ⊥
IsFlat (array ds) = AreTexts ds
IsFlat (object ms) = ⊥

-- the same of each member
abbrev pub IsFlatMember : List ℕ → Data → Type 0
IsFlatMember name value = IsFlat value

abbrev members_size : Members → ℕ
members_size no_members = 0
members_size (member k d ms) = field_size (k, d) + members_size ms

length-comma_if : (later : Bool) → length (comma_if later) ≤ 1
length-comma_if later = cond_length later (44 ∷ []) [] 1 (omega arith) (omega arith)

length-texts : (later : Bool) (texts : List (List ℕ))
    → length (items_text later (items_of (map string texts))) ≤ items_size (items_of (map string texts)) + 1
length-texts later [] = omega arith
length-texts later (s ∷ texts) =
    let rest = items_text true (items_of (map string texts)) in
    omega (
      arith,
      length-append (comma_if later) (quoted s ++ rest),
      length-append (quoted s) rest,
      length-comma_if later,
      length-quoted s,
      length-texts true texts,
    )

length-value : (d : Data) → IsFlat d → length (compact_text d) ≤ value_size d
length-value (number (unsigned n)) h = length-decimal-le 20 n (omega arith) (omega arith) h
length-value (string s) h = length-quoted s
length-value (number (negative z)) h = absurd h
length-value (number (float x)) h = absurd h
length-value null h = absurd h
length-value (boolean b) h = absurd h
length-value (array ds) h = subst (λ es. length (compact_text (array es)) ≤ value_size (array es)) (sym h.1)
    (omega (arith, length-texts false h.0))
length-value (object ms) h = absurd h

length-members_text : (later : Bool) (ms : Members) → AllMembers IsFlatMember ms
    → length (members_text later ms) ≤ members_size ms + 1
length-members_text later no_members h = omega arith
length-members_text later (member k d ms) h =
    omega (
      arith,
      length-append (comma_if later) (quoted k ++ 58 ∷ (compact_text d ++ members_text true ms)),
      length-append (quoted k) (58 ∷ (compact_text d ++ members_text true ms)),
      length-append (compact_text d) (members_text true ms),
      length-comma_if later,
      length-quoted k,
      length-value d h.0,
      length-members_text true ms h.1,
    )

-- ---- fields that are put in

members_size-put_at : (o : Ordering) (k : List ℕ) (d : Data) (l : List ℕ) (e : Data) (ms : Members)
    → members_size (put k d ms) ≤ field_size (k, d) + members_size ms
    → members_size (match_ordering o (member k d (member l e ms)) (member l d ms) (member l e (put k d ms))) ≤
    field_size (k, d) + members_size (member l e ms)
members_size-put_at Less k d l e ms later = omega arith
members_size-put_at Equal k d l e ms later = omega arith
members_size-put_at Greater k d l e ms later = omega arith

members_size-put : (k : List ℕ) (d : Data) (ms : Members)
    → members_size (put k d ms) ≤ field_size (k, d) + members_size ms
members_size-put k d no_members = omega arith
members_size-put k d (member l e ms) = members_size-put_at (slice_cmp nat_cmp k l) k d l e ms
    (members_size-put k d ms)

members_size-with_fields : (fs : List Field) (ms : Members)
    → members_size (with_fields fs ms) ≤ fields_size fs + members_size ms
members_size-with_fields [] ms = omega arith
members_size-with_fields (f ∷ fs) ms = omega (
  arith,
  members_size-with_fields fs (put f.0 f.1 ms),
  members_size-put f.0 f.1 ms,
)

-- the text of an object takes no more than its fields
pub length-object : (fs : List Field) → AllFields IsFlatMember fs
    → length (compact_text (object (with_fields fs no_members))) ≤ fields_size fs + 2
length-object fs h =
    omega (
      arith,
      length-members_text false (with_fields fs no_members) (AllMembers-with_fields IsFlatMember
          fs h),
      members_size-with_fields fs no_members,
    )
