-- What holds of a member by its kind, said once for each: its limit, how long its text is, that it is text.
use Rattle.std.proofs.Common.{◌≡◌, ℕ, ◌+◌, ◌*◌, ◌^◌, ◌<◌, ◌≤◌, Bool, true, ◌&&◌, List, [], ◌∷◌, ◌++◌}
use Rattle.std.proofs.Common.{length, map, IsUtf8, refl, arith}
use Rattle.std.proofs.lemmas.Bool.{and_parts, leb-true, ltb-true}
use Rattle.std.proofs.lemmas.List.Elements.{recursion_from_All}
use Rattle.std.specs.List.{All, AllByRecursion}
use Rattle.std.specs.Prelude.{nat_le, nat_lt}
use Rattle.json.proofs.Printed.Utf8.{are_ascii, IsUtf8-are_ascii}
use Rattle.serde_json.specs.Data.{string}
use Rattle.serde_json.specs.View.{items_of}
use Rattle.rv_json.specs.Limits.{FitsItem}
use Rattle.rv_text.specs.declared.call.Wait.TheVariants as wait
use Rattle.rv_text.specs.Members.{Limit, up_to, from_one_to, Keeps, Member, word, whole, item_text}
use Rattle.rv_text.specs.Members.{item_texts, wait_time, field_of, IsWithin, limited_members, WithinFrom}
use Rattle.rv_text.specs.Members.{WithinEach, AllWithin}
use Rattle.rv_text.proofs.Objects.{AllFields}
use Rattle.rv_text.proofs.Sizes.{items_size, field_size, fields_size, IsFlat, IsFlatMember}
use Rattle.rv_text.proofs.Texts.{IsTextMember}

-- ---- what holds of each member

abbrev pub Each : (Member → Type 0) → List Member → Type 0
Each P [] = Unit {0}
Each P (m ∷ row) = P m × Each P row

pub Each-parts : (P : Member → Type 0) (a b : List Member) → Each P (a ++ b) → Each P a × Each P b
Each-parts P [] b h = (tt, h)
Each-parts P (m ∷ a) b h = let rest = Each-parts P a b h.1 in ((h.0, rest.0), rest.1)

within_parts : (m : Member) (row : List Member) → WithinFrom m row → IsWithin m × WithinEach row
within_parts m [] h = (h, tt)
within_parts m (n ∷ row) h = h

pub each_within : (row : List Member) → AllWithin row → Each IsWithin row
each_within [] h = tt
each_within (word name bytes ∷ row) h = (tt, each_within row h)
each_within (whole name limit n ∷ row) h = let p = within_parts (whole name limit n) (limited_members row)
    h in (p.0, each_within row p.1)
each_within (item_text name bytes ∷ row) h = let p = within_parts (item_text name bytes) (limited_members row)
    h in (p.0, each_within row p.1)
each_within (item_texts name texts ∷ row) h = let p = within_parts (item_texts name texts)
    (limited_members row) h in (p.0, each_within row p.1)
each_within (wait_time name waits ∷ row) h = let p = within_parts (wait_time name waits) (limited_members row)
    h in (p.0, each_within row p.1)

-- ---- names and words are short and plain, and limits are below 2 ^ 64

abbrev greatest : Limit → ℕ
greatest (up_to most) = most
greatest (from_one_to most) = most

below_greatest : (limit : Limit) (n : ℕ) → Keeps limit n → n ≤ greatest limit
below_greatest (up_to most) n h = h
below_greatest (from_one_to most) n h = h.1

abbrev pub is_plain_word : List ℕ → Bool
is_plain_word bytes = are_ascii bytes && nat_le (length bytes) 16

abbrev pub is_plain : Member → Bool
is_plain (word name bytes) = are_ascii name && is_plain_word bytes
is_plain (whole name limit n) = are_ascii name && nat_lt (greatest limit) (2 ^ 64)
is_plain (item_text name bytes) = are_ascii name
is_plain (item_texts name texts) = are_ascii name
is_plain (wait_time name waits) = are_ascii name

abbrev pub are_plain : List Member → Bool
are_plain [] = true
are_plain (m ∷ row) = is_plain m && are_plain row

is_flat : (m : Member) → is_plain m ≡ true → IsWithin m → IsFlat (field_of m).1
is_flat (word name bytes) plain h = tt
is_flat (whole name limit n) plain h =
    let small : greatest limit < 2 ^ 64 = ltb-true (greatest limit) (2 ^ 64) (and_parts (are_ascii name) _
    plain).1 in
    omega (arith, small, below_greatest limit n h)
is_flat (item_text name bytes) plain h = tt
is_flat (item_texts name texts) plain h = (texts, refl)
is_flat (wait_time name wait.Now) plain h = tt
is_flat (wait_time name (wait.Millis millis)) plain h = omega (arith, h)
is_flat (wait_time name wait.Forever) plain h = tt

pub row_is_flat : (row : List Member) → are_plain row ≡ true → Each IsWithin row
    → AllFields IsFlatMember (map field_of row)
row_is_flat [] plain h = tt
row_is_flat (m ∷ row) plain h = let each = and_parts _ _ plain in (
  is_flat m each.0 h.0,
  row_is_flat row
      each.1 h.1,
)

-- ---- items

item_short : (item : List ℕ) → FitsItem item → length item ≤ 512
unfolding FitsItem
item_short item fits = fits.0

item_utf8 : (item : List ℕ) → FitsItem item → IsUtf8 item
unfolding FitsItem
item_utf8 item fits = fits.1

-- ---- how long the text of a member is at most

abbrev pub room : Member → ℕ
room (word name bytes) = 6 * length name + 102
room (whole name limit n) = 6 * length name + 24
room (item_text name bytes) = 6 * length name + 3078
room (item_texts name texts) = 6 * length name + 49206
room (wait_time name waits) = 6 * length name + 102

abbrev pub rooms : List Member → ℕ
rooms [] = 0
rooms (m ∷ row) = room m + rooms row

-- 512 bytes, escaped sixfold, with two quotes and a comma
texts_size : (texts : List (List ℕ)) → AllByRecursion FitsItem texts
    → items_size (items_of (map string texts)) ≤ 3075 * length texts
texts_size [] h = omega arith
texts_size (s ∷ texts) h = omega (arith, item_short s h.0, texts_size texts h.1)

size_within : (m : Member) → is_plain m ≡ true → IsWithin m → field_size (field_of m) ≤ room m
size_within (word name bytes) plain h =
    omega (arith, leb-true (length bytes) 16 (and_parts _ _ (and_parts (are_ascii name) _ plain).1).1)
size_within (whole name limit n) plain h = omega arith
size_within (item_text name bytes) plain h = omega (arith, item_short bytes h)
size_within (item_texts name texts) plain h = omega (
  arith,
  h.0,
  texts_size texts (recursion_from_All FitsItem
      texts h.1),
)
size_within (wait_time name wait.Now) plain h = omega arith
size_within (wait_time name (wait.Millis millis)) plain h = omega arith
size_within (wait_time name wait.Forever) plain h = omega arith

pub row_size : (row : List Member) → are_plain row ≡ true → Each IsWithin row
    → fields_size (map field_of row) ≤ rooms row
row_size [] plain h = omega arith
row_size (m ∷ row) plain h =
    let each = and_parts (is_plain m) (are_plain row) plain in
    omega (arith, size_within m each.0 h.0, row_size row each.1 h.1)

-- ---- UTF-8

texts_utf8 : (texts : List (List ℕ)) → All FitsItem texts → All IsUtf8 texts
texts_utf8 texts fits = λ k d there. item_utf8 _ (fits k d there)

is_text : (m : Member) → is_plain m ≡ true → IsWithin m → IsTextMember (field_of m).0 (field_of m).1
is_text (word name bytes) plain h =
    let parts = and_parts (are_ascii name) _ plain in
    (IsUtf8-are_ascii name parts.0, IsUtf8-are_ascii bytes (and_parts _ _ parts.1).0)
is_text (whole name limit n) plain h = (
  IsUtf8-are_ascii name (and_parts _ _ plain).0,
  is_flat
      (whole name limit n) plain h,
)
is_text (item_text name bytes) plain h = (IsUtf8-are_ascii name plain, item_utf8 bytes h)
is_text (item_texts name texts) plain h = (IsUtf8-are_ascii name plain, (texts, refl, texts_utf8 texts h.1))
is_text (wait_time name wait.Now) plain h = (IsUtf8-are_ascii name plain, IsUtf8-are_ascii _ refl)
is_text (wait_time name (wait.Millis millis)) plain h = (IsUtf8-are_ascii name plain, omega (arith, h))
is_text (wait_time name wait.Forever) plain h = (IsUtf8-are_ascii name plain, IsUtf8-are_ascii _ refl)

pub row_is_text : (row : List Member) → are_plain row ≡ true → Each IsWithin row
    → AllFields IsTextMember (map field_of row)
row_is_text [] plain h = tt
row_is_text (m ∷ row) plain h = let each = and_parts _ _ plain in (
  is_text m each.0 h.0,
  row_is_text row
      each.1 h.1,
)
