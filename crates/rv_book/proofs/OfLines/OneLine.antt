-- Bodies, and what is written for an account, have no LF within a line.
use Rattle.std.proofs.Common.{◌≡◌, ◌≢◌, ◌<◌, ◌^◌, ◌+◌, ◌/◌, ◌%◌, ◌++◌, ◌||◌, ◌==◌, ℕ, Bool, true}
use Rattle.std.proofs.Common.{false, cond, List, [], ◌∷◌, Option, Some, None, IfSome, inl, inr, map, refl}
use Rattle.std.proofs.Common.{sym, subst, arith, codes}
use Rattle.std.specs.Prelude.{nat_lt}
use Rattle.std.specs.List.{list_all}
use Rattle.std.specs.Char.{digit_char}
use Rattle.std.specs.Fmt.{decimal}
use Rattle.std.proofs.lemmas.Fmt.{decimal_is_IsNumeral}
use Rattle.std.proofs.lemmas.Bool.{and_parts, ltb-true}
use Rattle.std.proofs.lemmas.Bool.Decides.{eqb_tells}
use Rattle.std.proofs.lemmas.List.Elements.{All-append, All-cons, All-nil}
use Rattle.json.specs.Print.{escape, escape_byte, escape_letter, quoted}
use Rattle.serde_json.specs.Data.{unsigned, negative, float, Data, null, boolean, number, string, array}
use Rattle.serde_json.specs.Data.{object, Members, no_members, member}
use Rattle.serde_json.specs.View.{items_of}
use Rattle.serde_json.specs.Written.{comma_if, compact_text, items_text, members_text}
use Rattle.rv_text.specs.declared.answer.Answer.{Answer}
use Rattle.rv_text.specs.declared.call.Call.{Call}
use Rattle.rv_text.specs.declared.message.Message.{Message}
use Rattle.rv_text.specs.Bodies.{answer_text, call_text, message_text}
use Rattle.rv_text.specs.Limits.{FitsAnswer, FitsCall, FitsMessage}
use Rattle.rv_text.specs.Members.{field_of, members_of}
use Rattle.rv_text.specs.Rows.{answer_row, call_row, message_row}
use Rattle.rv_text.proofs.ByKind.{each_within, row_is_flat}
use Rattle.rv_text.proofs.Objects.{AllMembers, AllMembers-with_fields}
use Rattle.rv_text.proofs.Sizes.{IsFlat, IsFlatMember}
use Rattle.rv_text.proofs.Sound.{answer_sound, answer_within, call_sound, message_sound, message_within}
use Rattle.rv_account.specs.declared.entry.Entry.{Entry}
use Rattle.rv_book.specs.Limits.{FitsEntry}
use Rattle.rv_book.proofs.OfLines.Texts.{AllUpTo, message_fits, up_to_behind}
use Rattle.rv_book.specs.lines.EntryText.{FitPlacesUpTo}
use Rattle.rv_book.specs.lines.Written.{entry_text, head_text, message_in, partners_text}
use Rattle.rv_book.specs.lines.Written.{places_text, said_text}
use Rattle.rv_book.proofs.OfLines.Cutting.{Lacks}
use Rattle.rv_text.proofs.Numbers.{all_in_range}

-- a list of one more byte, and two lists
pub line_cons : (x : ℕ) (xs : List ℕ) → x ≢ 10 → Lacks 10 xs → Lacks 10 (x ∷ xs)
line_cons x xs = All-cons (λ b. b ≢ 10) x xs

pub line_append : (xs ys : List ℕ) → Lacks 10 xs → Lacks 10 ys → Lacks 10 (xs ++ ys)
line_append xs ys = All-append (λ b. b ≢ 10) xs ys

line_nil : Lacks 10 []
line_nil = All-nil (λ b. b ≢ 10)

line_one : (x : ℕ) → x ≢ 10 → Lacks 10 (x ∷ [])
line_one x differs = line_cons x [] differs line_nil

-- a word of greater bytes
pub greater_lack : (byte : ℕ) (word : List ℕ) → list_all (λ b. nat_lt byte b) word ≡ true → Lacks byte word
greater_lack byte [] all = All-nil (λ b. b ≢ byte)
greater_lack byte (x ∷ word) all =
    let each : (nat_lt byte x ≡ true) × (list_all (λ b. nat_lt byte b) word ≡ true) = and_parts _ _ all in
    All-cons (λ b. b ≢ byte) x word (λ same. omega (arith, ltb-true byte x each.0)) (greater_lack byte word
    each.1)

pub word_in_line : (word : List ℕ) → list_all (λ b. nat_lt 10 b) word ≡ true → Lacks 10 word
word_in_line = greater_lack 10

cond_line : (b : Bool) (xs ys : List ℕ) → Lacks 10 xs → Lacks 10 ys → Lacks 10 (cond b xs ys)
cond_line true xs ys p q = p
cond_line false xs ys p q = q

-- ---- strings

cond_differs : (b : Bool) (x y : ℕ) → x ≢ 10 → y ≢ 10 → cond b x y ≢ 10
cond_differs true x y p q = p
cond_differs false x y p q = q

digit_in_line : (d : ℕ) → digit_char d ≢ 10
digit_in_line d = cond_differs (nat_lt d 10) (48 + d) (87 + d) (λ same. omega arith) (λ same. omega arith)

letter_in_line : (x : ℕ) → x ≢ 10 → escape_letter x ≢ 10
letter_in_line x differs =
    cond_differs ((x == 34) || (x == 92)) x _ differs
    (cond_differs (x == 8) 98 _ (λ same. omega arith)
    (cond_differs (x == 12) 102 _ (λ same. omega arith)
    (cond_differs (x == 10) 110 _ (λ same. omega arith) (cond_differs (x == 13) 114 _ (λ same. omega arith)
    (cond_differs (x == 9) 116 0 (λ same. omega arith) (λ same. omega arith))))))

other_byte_in_line : (x : ℕ) → x ≢ 10 → Lacks 10 (escape_byte x)
unfolding escape_byte
other_byte_in_line x differs =
    let code : List ℕ = 92 ∷ 117 ∷ 48 ∷ 48 ∷ digit_char (x / 16) ∷ digit_char (x % 16) ∷ [] in
    let digits = line_cons (digit_char (x / 16)) (digit_char (x % 16) ∷ []) (digit_in_line (x / 16))
    (line_one (digit_char (x % 16)) (digit_in_line (x % 16))) in
    cond_line (nat_lt 0 (escape_letter x)) (92 ∷ escape_letter x ∷ []) (cond (nat_lt x 32) code (x ∷ []))
    (line_cons 92 (escape_letter x ∷ []) (λ same. omega arith) (line_one (escape_letter x)
    (letter_in_line x differs)))
    (cond_line (nat_lt x 32) code (x ∷ [])
    (line_append (92 ∷ 117 ∷ 48 ∷ 48 ∷ []) (digit_char (x / 16) ∷ digit_char (x % 16) ∷ [])
    (word_in_line (92 ∷ 117 ∷ 48 ∷ 48 ∷ []) refl) digits)
    (line_one x differs))

lf_is_escaped : escape_byte 10 ≡ 92 ∷ 110 ∷ []
unfolding escape_byte
lf_is_escaped = refl

byte_in_line : (x : ℕ) → Lacks 10 (escape_byte x)
byte_in_line x = elim (eqb_tells x 10) [
  | inl same ↦ subst (λ b. Lacks 10 (escape_byte b)) (sym same.1) (subst (Lacks 10) (sym lf_is_escaped)
      (word_in_line (92 ∷ 110 ∷ []) refl))
  | inr other ↦ other_byte_in_line x other.1
]

escape_in_line : (s : List ℕ) → Lacks 10 (escape s)
escape_in_line [] = line_nil
escape_in_line (x ∷ s) = line_append (escape_byte x) (escape s) (byte_in_line x) (escape_in_line s)

quoted_in_line : (s : List ℕ) → Lacks 10 (quoted s)
quoted_in_line s = line_cons 34 (escape s ++ 34 ∷ []) (λ same. omega arith) (line_append (escape s) (34 ∷ [])
    (escape_in_line s) (line_one 34 (λ same. omega arith)))

-- ---- objects of whole numbers and texts

pub decimal_in_line : (n : ℕ) → n < 2 ^ 64 → Lacks 10 (decimal n)
decimal_in_line n small k d inside same = omega (
  arith,
  all_in_range (decimal n) (decimal_is_IsNumeral n
      small).0.1 k d inside,
)

texts_in_line : (later : Bool) (texts : List (List ℕ))
    → Lacks 10 (items_text later (items_of (map string texts)))
texts_in_line later [] = line_one 93 (λ same. omega arith)
texts_in_line later (s ∷ texts) =
    let rest = items_text true (items_of (map string texts)) in
    line_append (comma_if later) (quoted s ++ rest) (cond_line later (44 ∷ []) []
    (line_one 44 (λ same. omega arith)) line_nil)
    (line_append (quoted s) rest (quoted_in_line s) (texts_in_line true texts))

value_in_line : (d : Data) → IsFlat d → Lacks 10 (compact_text d)
value_in_line (number (unsigned n)) h = decimal_in_line n h
value_in_line (string s) h = quoted_in_line s
value_in_line (number (negative z)) h = absurd h
value_in_line (number (float x)) h = absurd h
value_in_line null h = absurd h
value_in_line (boolean b) h = absurd h
value_in_line (array ds) h =
    let texts = line_cons 91 (items_text false (items_of (map string h.0))) (λ same. omega arith)
    (texts_in_line false h.0) in
    subst (λ es. Lacks 10 (compact_text (array es))) (sym h.1) texts
value_in_line (object ms) h = absurd h

members_in_line : (later : Bool) (ms : Members) → AllMembers IsFlatMember ms
    → Lacks 10 (members_text later ms)
members_in_line later no_members h = line_one 125 (λ same. omega arith)
members_in_line later (member k d ms) h =
    let rest = compact_text d ++ members_text true ms in
    let value = line_append (compact_text d) (members_text true ms) (value_in_line d h.0)
    (members_in_line true ms h.1) in
    line_append (comma_if later) (quoted k ++ 58 ∷ rest) (cond_line later (44 ∷ []) []
    (line_one 44 (λ same. omega arith)) line_nil)
    (line_append (quoted k) (58 ∷ rest) (quoted_in_line k) (line_cons 58 rest (λ same. omega arith) value))

pub message_in_one_line : (m : Message) → FitsMessage m → Lacks 10 (message_text m)
message_in_one_line m fits =
    let row = message_row m in
    let flat = AllMembers-with_fields IsFlatMember (map field_of row) (row_is_flat row (message_sound m).plain
    (message_within m fits)) in
    line_cons 123 (members_text false (members_of row)) (λ same. omega arith) (members_in_line false
    (members_of row) flat)

pub answer_in_one_line : (a : Answer) → FitsAnswer a → Lacks 10 (answer_text a)
answer_in_one_line a fits =
    let row = answer_row a in
    let flat = AllMembers-with_fields IsFlatMember (map field_of row) (row_is_flat row (answer_sound a).plain
    (answer_within a fits)) in
    line_cons 123 (members_text false (members_of row)) (λ same. omega arith) (members_in_line false
    (members_of row) flat)

pub call_in_one_line : (c : Call) → FitsCall c → Lacks 10 (call_text c)
call_in_one_line c fits =
    let row = call_row c in
    let flat = AllMembers-with_fields IsFlatMember (map field_of row) (row_is_flat row (call_sound c).plain
    (each_within row fits.0)) in
    line_cons 123 (members_text false (members_of row)) (λ same. omega arith) (members_in_line false
    (members_of row) flat)

-- ---- lines of an account

-- digits, commas and a minus are above these bytes
module _ (byte most : ℕ) (low : byte < 44) (most_fits : most < 2 ^ 64) where
  decimal_lacks : (n : ℕ) → n < 2 ^ 64 → Lacks byte (decimal n)
  decimal_lacks n small k d inside same = omega (
    arith,
    all_in_range (decimal n) (decimal_is_IsNumeral n
        small).0.1 k d inside,
  )

  places_lack : (place : ℕ) (more : List ℕ) → AllUpTo most (place ∷ more)
      → Lacks byte (places_text place more)
  places_lack place [] small = decimal_lacks place (omega (arith, most_fits, small place (0, refl)))
  places_lack place (next ∷ more) small =
      let later = places_lack next more (up_to_behind most place (next ∷ more) small) in
      All-append (λ b. b ≢ byte) (decimal place) (44 ∷ places_text next more)
      (decimal_lacks place (omega (arith, most_fits, small place (0, refl))))
      (All-cons (λ b. b ≢ byte) 44 (places_text next more) (λ same. omega (arith, same)) later)

  pub partners_lack : (partners : List ℕ) → AllUpTo most partners → Lacks byte (partners_text partners)
  partners_lack [] small = All-cons (λ b. b ≢ byte) 45 [] (λ same. omega (arith, same))
      (All-nil (λ b. b ≢ byte))
  partners_lack (place ∷ more) small = places_lack place more small

said_in_line : (said : Option Message) → IfSome said FitsMessage → Lacks 10 (said_text said)
said_in_line None fits = word_in_line (codes "tick") refl
said_in_line (Some m) fits = message_in_one_line m fits

pub entry_in_one_line : (most : ℕ) → most < 2 ^ 64 → (e : Entry) → FitsEntry e → FitPlacesUpTo most e
    → Lacks 10 (entry_text e)
entry_in_one_line most most_fits e fits small =
    line_append (decimal e.moment ++ 32 ∷ partners_text e.partners) (32 ∷ said_text (message_in e.act))
    (line_append (decimal e.moment) (32 ∷ partners_text e.partners) (decimal_in_line e.moment
    (omega (arith, fits.0)))
    (line_cons 32 (partners_text e.partners) (λ same. omega arith)
    (partners_lack 10 most (omega arith) most_fits e.partners small)))
    (line_cons 32 (said_text (message_in e.act)) (λ same. omega arith) (said_in_line (message_in e.act)
    (message_fits e.act fits.1)))

pub head_in_one_line : (epoch opened : ℕ) → epoch < 2 ^ 64 → opened < 2 ^ 64
    → Lacks 10 (head_text epoch opened)
head_in_one_line epoch opened small small' =
    line_append (codes "epoch " ++ decimal epoch ++ codes " opened ") (decimal opened)
    (line_append (codes "epoch " ++ decimal epoch) (codes " opened ")
    (line_append (codes "epoch ") (decimal epoch) (word_in_line (codes "epoch ") refl) (decimal_in_line epoch
    small))
    (word_in_line (codes " opened ") refl))
    (decimal_in_line opened small')
